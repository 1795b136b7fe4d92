use Rattle.std.proofs.Common.{◌-◌}
use Rattle.sdf_parallel.proofs.Bounding.{AreFirst}
use Rattle.sdf_parallel.proofs.bounds.part_bounds.Given as goal

abbrev pub invariant-loop-at : goal.invariant-loop-at
invariant-loop-at g l = AreFirst l.split l.at l.bounds.items

abbrev pub decreases-loop-at : goal.decreases-loop-at
decreases-loop-at g l = l.split.periods - l.at
