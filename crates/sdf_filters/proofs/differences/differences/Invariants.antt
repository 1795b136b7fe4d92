use Rattle.std.proofs.Common.{◌≡◌, ℕ, ◌<◌, ◌-ℤ◌, length, FitsSigned}
use Rattle.std.specs.Int.{w16}
use Rattle.sdf_filters.specs.Phases.{tap}
use Rattle.sdf_filters.proofs.differences.differences.Given as goal

abbrev pub invariant-loop-place : goal.invariant-loop-place
invariant-loop-place l =
    (length l.left.items ≡ l.place) × ((n : ℕ) → n < l.place →
    (tap l.left.items n ≡ tap l.from n -ℤ tap l.taps n) × FitsSigned w16 (tap l.left.items n))
