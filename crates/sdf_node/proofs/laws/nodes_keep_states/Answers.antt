use Rattle.sdf_node.proofs.Theorems.{nodes_keep_states}
use Rattle.sdf_node.proofs.laws.nodes_keep_states.Goals as goal

pub returns : goal.returns
returns g c = nodes_keep_states g.A.Actor.steps
