use Rattle.std.proofs.Common.{◌≡◌, ◌++◌, length}
use Rattle.rtrb.specs.Ring.{known_items}
use Rattle.sdf_rings.proofs.rings.leave.drain.Given as goal

abbrev pub invariant-loop-items : goal.invariant-loop-items
invariant-loop-items g l = l.items.items ++ known_items l.end ≡ known_items l.initial.end

abbrev pub decreases-loop-items : goal.decreases-loop-items
decreases-loop-items g l = length (known_items l.end)
