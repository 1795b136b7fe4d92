use Rattle.sdf_actor.specs.Wires.{netlist}
use Rattle.sdf_actor.specs.NetFaults.{HasLinks}
use Rattle.sdf_actor.proofs.checks.links.check_links.Given as goal

abbrev pub invariant-loop-c : goal.invariant-loop-c
invariant-loop-c g l = HasLinks g.A.Actor.steps (netlist l.nodes l.links) l.c
