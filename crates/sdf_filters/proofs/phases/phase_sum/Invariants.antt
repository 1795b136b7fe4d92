use Rattle.std.proofs.Common.{◌≡◌, ◌*◌, pos, neg_ℤ, ◌≤ℤ◌}
use Rattle.sdf_filters.specs.Phases.{sum_before}
use Rattle.sdf_filters.proofs.phases.phase_sum.Given as goal

abbrev pub invariant-loop-place : goal.invariant-loop-place
invariant-loop-place l =
    (l.sum ≡ sum_before l.taps l.up l.phase l.place) × (neg_ℤ (pos (2147483648 * l.place)) ≤ℤ l.sum)
    × (l.sum ≤ℤ pos (2147483648 * l.place))
