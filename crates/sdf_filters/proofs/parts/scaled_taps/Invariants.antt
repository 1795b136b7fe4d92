use Rattle.std.proofs.Common.{◌≡◌, ◌<◌, ◌^◌, ◌*ℤ◌, pos, ℕ, length}
use Rattle.sdf_filters.specs.Phases.{tap}
use Rattle.sdf_filters.specs.Wide.{late_tap}
use Rattle.sdf_filters.proofs.parts.scaled_taps.Given as goal

abbrev pub invariant-loop-place : goal.invariant-loop-place
invariant-loop-place l = (length l.taps.items ≡ l.place) × ((n : ℕ) → n < l.place →
    tap l.taps.items n ≡ pos (2 ^ l.bits) *ℤ late_tap l.late l.high n)
