use Rattle.sdf_actor.proofs.Theorems.{put_is_dealt, put_stays}
use Rattle.sdf_actor.proofs.laws.put_stays.Goals as goal

pub returns-clause-dealt : goal.returns-clause-dealt
returns-clause-dealt g c = put_is_dealt g.A.Actor.steps

pub returns-clause-stays : goal.returns-clause-stays
returns-clause-stays g c = put_stays g.A.Actor.steps
