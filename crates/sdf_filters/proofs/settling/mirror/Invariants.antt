use Rattle.std.proofs.Common.{◌≡◌, ℕ, ◌<◌, ◌-◌, length}
use Rattle.sdf_filters.specs.Phases.{tap}
use Rattle.sdf_filters.proofs.settling.mirror.Given as goal

abbrev pub invariant-loop-place : goal.invariant-loop-place
invariant-loop-place l =
    (n : ℕ) → n < l.place → tap l.taps (length l.taps - 1 - n) ≡ tap l.taps n
