use Rattle.sdf_queues.proofs.Theorems.{nodes_take_theirs}
use Rattle.sdf_queues.proofs.laws.nodes_take_theirs.Goals as goal

pub returns : goal.returns
returns g c = nodes_take_theirs g.A.Actor.steps
