use Rattle.sdf_queues.proofs.Theorems.{blocks_are_small}
use Rattle.sdf_queues.proofs.laws.blocks_are_small.Goals as goal

pub returns : goal.returns
returns g c = blocks_are_small g.A.Actor.steps c.args.net.now c.net_facts.ensures.net c.net_facts.ensures.graph
