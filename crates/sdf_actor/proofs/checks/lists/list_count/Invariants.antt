use Rattle.std.proofs.Common.{◌≡◌, take}
use Rattle.sdf_actor.specs.Sides.{list_count}
use Rattle.sdf_actor.proofs.checks.lists.list_count.Given as goal

abbrev pub invariant-loop-node : goal.invariant-loop-node
invariant-loop-node g l = l.count ≡ list_count l.lists (take l.node-index l.nodes)
