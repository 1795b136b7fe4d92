use Rattle.std.proofs.Common.{ℕ, ◌<◌, ◌≤◌, get_or, pos, unsigned_abs}
use Rattle.sdf_kit.proofs.arithmetic.max_abs.Given as goal

abbrev pub invariant-loop-sample : goal.invariant-loop-sample
invariant-loop-sample l = (k : ℕ) → k < l.sample-index → unsigned_abs (get_or l.samples k (pos 0)) ≤ l.max_abs
