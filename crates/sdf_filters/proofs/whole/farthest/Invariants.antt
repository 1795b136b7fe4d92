use Rattle.std.proofs.Common.{◌≡◌, ◌<◌, ◌%◌, length}
use Rattle.sdf_filters.proofs.whole.farthest.Given as goal

abbrev pub invariant-loop-place : goal.invariant-loop-place
invariant-loop-place l = (l.best < length l.taps) × (l.best % l.up ≡ l.phase)
