use Rattle.std.proofs.Common.{◌≡◌, ℕ, ◌<◌, length}
use Rattle.sdf_filters.specs.Phases.{phase_sum}
use Rattle.sdf_filters.proofs.whole.settle_sums.Given as goal

abbrev pub invariant-loop-phase : goal.invariant-loop-phase
invariant-loop-phase l =
    (length l.taps ≡ length l.initial.taps) × ((q : ℕ) → q < l.phase → phase_sum l.taps l.up q ≡ l.total)
