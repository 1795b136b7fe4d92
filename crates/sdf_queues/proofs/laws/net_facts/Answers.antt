use Rattle.sdf_queues.proofs.Theorems.{nets_have_facts}
use Rattle.sdf_queues.proofs.laws.net_facts.Goals as goal

pub returns : goal.returns
returns g c =
    let facts = nets_have_facts g.A.Actor.steps c.args.net.now c.graph.ensures.accepted in
    record {
      net = facts.net;
      graph = facts.graph;
      alike = facts.alike;
      accepted = c.graph.ensures.accepted;
      phases = facts.phases;
      sinks = facts.sinks;
    }
