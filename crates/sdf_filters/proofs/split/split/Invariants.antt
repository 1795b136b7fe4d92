use Rattle.std.proofs.Common.{◌+◌}
use Rattle.sdf_filters.specs.Stages.{IsSplitOf}
use Rattle.sdf_filters.proofs.split.split.Given as goal

abbrev pub invariant-parts : goal.invariant-parts
invariant-parts l = IsSplitOf l.fn.ratio.up l.fn.ratio.down l.left.up l.left.down l.stages.items

abbrev pub decreases-parts : goal.decreases-parts
decreases-parts l = l.left.up + l.left.down
