use Rattle.std.proofs.Common.{◌≡◌, ◌<◌, ◌%◌}
use Rattle.sdf_filters.proofs.whole.central.Given as goal

abbrev pub invariant-loop-place : goal.invariant-loop-place
invariant-loop-place l = (l.best < l.count) × (l.best % l.up ≡ l.phase)
