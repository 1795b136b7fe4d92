use Rattle.std.proofs.Common.{◌≡◌, ◌-◌, length}
use Rattle.sdf_filters.proofs.parts.high_taps.Given as goal

abbrev pub invariant-loop-place : goal.invariant-loop-place
invariant-loop-place l = length l.high.items ≡ l.place - l.first
