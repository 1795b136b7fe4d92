use Rattle.std.proofs.Common.{ℕ, ◌<◌, FitsSigned}
use Rattle.std.specs.Int.{w16}
use Rattle.sdf_filters.specs.Phases.{tap}
use Rattle.sdf_filters.proofs.phases.check_16_bits.Given as goal

abbrev pub invariant-loop-tap : goal.invariant-loop-tap
invariant-loop-tap l = (n : ℕ) → n < l.tap-index → FitsSigned w16 (tap l.taps n)
