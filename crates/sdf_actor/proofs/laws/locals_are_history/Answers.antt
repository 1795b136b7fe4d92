use Rattle.sdf_actor.proofs.Theorems.{locals_meet}
use Rattle.sdf_actor.proofs.laws.locals_are_history.Goals as goal

pub returns : goal.returns
returns g c = locals_meet g.A.Actor.steps
