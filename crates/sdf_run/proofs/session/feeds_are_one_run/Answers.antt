use Rattle.sdf_run.proofs.Feeding.{one_run}
use Rattle.sdf_run.proofs.session.feeds_are_one_run.Goals as goal

pub returns : goal.returns
returns g c = one_run g.A.Actor.steps
