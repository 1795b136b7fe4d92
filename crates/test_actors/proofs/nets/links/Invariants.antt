use Rattle.std.proofs.Common.{◌≡◌, take}
use Rattle.sdf_actor.specs.Wires.{wires}
use Rattle.test_actors.specs.Rows.{empty_wires}
use Rattle.test_actors.proofs.nets.links.Given as goal

abbrev pub invariant-loop-from : goal.invariant-loop-from
invariant-loop-from g l = wires l.links.items ≡ empty_wires (take l.from-index l.ends)
