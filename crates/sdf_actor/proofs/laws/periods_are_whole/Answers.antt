use Rattle.sdf_actor.proofs.Theorems.{periods_are_whole}
use Rattle.sdf_actor.proofs.laws.periods_are_whole.Goals as goal

pub returns : goal.returns
returns g c = periods_are_whole g.A.Actor.steps
