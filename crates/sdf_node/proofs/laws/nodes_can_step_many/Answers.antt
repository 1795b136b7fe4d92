use Rattle.sdf_node.proofs.Theorems.{nodes_can_step_many}
use Rattle.sdf_node.proofs.laws.nodes_can_step_many.Goals as goal

pub returns : goal.returns
returns g c = nodes_can_step_many g.A.Actor.steps
