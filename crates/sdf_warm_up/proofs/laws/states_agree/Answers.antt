use Rattle.sdf_warm_up.proofs.Theorems.{states_agree}
use Rattle.sdf_warm_up.proofs.laws.states_agree.Goals as goal

pub returns : goal.returns
returns g c = states_agree g.A.Actor.steps
