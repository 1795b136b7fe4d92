use Rattle.std.proofs.Common.{◌≢◌, ℕ, ◌<◌, ◌%◌}
use Rattle.sdf_filters.proofs.split.least_factor.Given as goal

abbrev pub invariant-loop-factor : goal.invariant-loop-factor
invariant-loop-factor l = (d : ℕ) → 1 < d → d < l.factor → l.number % d ≢ 0
