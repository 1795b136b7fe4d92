use Rattle.std.proofs.Common.{◌≡◌, ℕ, ◌<◌, length, get_or}
use Rattle.sdf_prec.proofs.hu.marked.Marks.of_all.Given as goal

abbrev pub invariant-loop-actor : goal.invariant-loop-actor
invariant-loop-actor l = record {
  count : length l.all.items ≡ l.actor;
  each : (p : ℕ) → p < length l.all.items → get_or l.all.items p 0 ≡ p;
}
