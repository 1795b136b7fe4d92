use Rattle.sdf_queues.proofs.Theorems.{nets_can_run}
use Rattle.sdf_queues.proofs.laws.nets_can_run.Goals as goal

pub returns : goal.returns
returns g c = nets_can_run g.A.Actor.steps
