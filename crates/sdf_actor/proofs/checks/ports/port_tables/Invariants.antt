use Rattle.sdf_actor.specs.declared.sides.Side.TheVariants.{Input, Output}
use Rattle.sdf_actor.specs.Wires.{netlist, lists}
use Rattle.sdf_actor.specs.Tables.{IsPortTable}
use Rattle.sdf_actor.specs.NetFaults.{HasPorts}
use Rattle.sdf_actor.proofs.checks.ports.port_tables.Given as goal

abbrev pub invariant-loop-a : goal.invariant-loop-a
invariant-loop-a g l = record {
  joined : HasPorts g.A.Actor.steps (netlist l.nodes l.links) l.a;
  into : IsPortTable g.A.Actor.steps (netlist l.nodes l.links) Input l.a (lists l.into.items);
  out_of : IsPortTable g.A.Actor.steps (netlist l.nodes l.links) Output l.a (lists l.out_of.items);
}
