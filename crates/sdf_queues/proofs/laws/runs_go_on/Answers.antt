use Rattle.sdf_queues.proofs.Theorems.{runs_go_on}
use Rattle.sdf_queues.proofs.laws.runs_go_on.Goals as goal

pub returns : goal.returns
returns g c = runs_go_on g.A.Actor.steps c.one_history.ensures.exists
