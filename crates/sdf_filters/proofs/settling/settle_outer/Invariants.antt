use Rattle.std.proofs.Common.{◌≡◌, ℕ, ◌<◌}
use Rattle.sdf_filters.specs.Phases.{phase_sum, IsSymmetric}
use Rattle.sdf_filters.proofs.settling.settle_outer.Given as goal

abbrev pub invariant-loop-phase : goal.invariant-loop-phase
invariant-loop-phase l =
    IsSymmetric l.taps × ((q : ℕ) → q < l.phase → phase_sum l.taps l.up q ≡ l.total)
