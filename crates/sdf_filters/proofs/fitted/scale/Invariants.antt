use Rattle.std.proofs.Common.{◌≡◌, length}
use Rattle.sdf_filters.proofs.fitted.scale.Given as goal

abbrev pub invariant-loop-place : goal.invariant-loop-place
invariant-loop-place l = length l.reals ≡ length l.initial.reals
