use Rattle.std.proofs.Common.{◌<◌, ◌≤◌, length}
use Rattle.sdf_filters.proofs.parts.large_stretch.Given as goal

abbrev pub invariant-loop-place : goal.invariant-loop-place
invariant-loop-place l = (l.start < l.end) × (l.end ≤ length l.taps)
