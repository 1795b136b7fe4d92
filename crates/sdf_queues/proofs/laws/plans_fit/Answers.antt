use Rattle.sdf_queues.proofs.Theorems.{plans_fit}
use Rattle.sdf_queues.proofs.laws.plans_fit.Goals as goal

pub returns : goal.returns
returns g c = plans_fit g.A.Actor.steps
