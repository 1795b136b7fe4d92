use Rattle.std.proofs.Common.{subst, arith}
use Rattle.sdf_why.specs.Channels.{ArePortsOf}
use Rattle.sdf_why.proofs.Edges.{node_at, node_past}
use Rattle.sdf_why.proofs.channels.ports_at.Goals as goal

pub returns-then-actor-actors : goal.returns-then-actor-actors
returns-then-actor-actors c =
    subst (ArePortsOf c.ports_of.result) (node_at c.args.actors.now c.args.actor c.index-actors-actor.result
    (omega arith)) c.ports_of.ensures

pub returns-else-actor-actors : goal.returns-else-actor-actors
returns-else-actor-actors c =
    subst (ArePortsOf c.no_ports.result) (node_past c.args.actors.now c.args.actor (omega arith)) c.no_ports.ensures
