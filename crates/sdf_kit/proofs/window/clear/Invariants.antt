use Rattle.std.proofs.Common.{◌≡◌, ℕ, ◌<◌, get_or, length, pos}
use Rattle.sdf_kit.proofs.window.clear.Given as goal

abbrev pub invariant-loop-i : goal.invariant-loop-i
invariant-loop-i l = record {
  long : length l.to ≡ length l.initial.to;
  zeros : (k : ℕ) → k < l.i → get_or l.to k (pos 0) ≡ pos 0;
}
