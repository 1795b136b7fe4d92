use Rattle.std.proofs.Common.{◌≡◌, ℕ, length}
use Rattle.sdf_filters.specs.Phases.{phase_sum}
use Rattle.sdf_filters.proofs.whole.spread.Given as goal

abbrev pub invariant-loop : goal.invariant-loop
invariant-loop l = (length l.taps ≡ length l.initial.taps) ×
    ((q : ℕ) → (q ≡ l.phase → ⊥) → phase_sum l.taps l.up q ≡ phase_sum l.initial.taps l.up q)
