use Rattle.std.proofs.Common.{◌≡◌, length}
use Rattle.sdf_filters.proofs.sinc.real_taps.Given as goal

abbrev pub invariant-loop-place : goal.invariant-loop-place
invariant-loop-place l = length l.reals.items ≡ l.place
