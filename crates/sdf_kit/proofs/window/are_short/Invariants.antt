use Rattle.std.proofs.Common.{ℕ, ◌<◌, ◌≤ℤ◌, get_or, pos}
use Rattle.sdf_kit.proofs.window.are_short.Given as goal

abbrev pub invariant-loop-sample : goal.invariant-loop-sample
invariant-loop-sample l = (k : ℕ) → k < l.sample-index → get_or l.samples k (pos 0) ≤ℤ l.greatest
