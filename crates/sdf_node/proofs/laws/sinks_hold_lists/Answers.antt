use Rattle.sdf_node.proofs.Theorems.{sinks_hold_lists}
use Rattle.sdf_node.proofs.laws.sinks_hold_lists.Goals as goal

pub returns : goal.returns
returns g c = sinks_hold_lists g.A.Actor.steps
