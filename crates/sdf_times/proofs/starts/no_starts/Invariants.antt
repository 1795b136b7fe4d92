use Rattle.std.proofs.Common.{◌≡◌, ℕ, [], length, get_or}
use Rattle.sdf_times.proofs.starts.no_starts.Given as goal

abbrev pub invariant-loop : goal.invariant-loop
invariant-loop l = record {
  all : length l.starts.items ≡ l.counter;
  none : (a : ℕ) → get_or l.starts.items a [] ≡ [];
}
