use Rattle.sdf_node.proofs.Theorems.{nodes_can_step, nodes_keep_phase}
use Rattle.sdf_node.proofs.laws.nodes_can_step.Goals as goal

pub returns-clause-steps : goal.returns-clause-steps
returns-clause-steps g c = nodes_can_step g.A.Actor.steps

pub returns-clause-phases : goal.returns-clause-phases
returns-clause-phases g c = nodes_keep_phase g.A.Actor.steps
