use Rattle.sdf_actor.proofs.Theorems.{taken_stays}
use Rattle.sdf_actor.proofs.laws.taken_stays.Goals as goal

pub returns : goal.returns
returns g c = taken_stays g.A.Actor.steps
