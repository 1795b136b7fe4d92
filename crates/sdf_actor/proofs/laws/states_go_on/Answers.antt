use Rattle.sdf_actor.proofs.Theorems.{histories_go_on, states_go_on, arrivals_go_on}
use Rattle.sdf_actor.proofs.laws.states_go_on.Goals as goal

pub returns-clause-histories : goal.returns-clause-histories
returns-clause-histories g c = histories_go_on g.A.Actor.steps g.B.Actor.steps

pub returns-clause-rests : goal.returns-clause-rests
returns-clause-rests g c = states_go_on g.A.Actor.steps g.B.Actor.steps

pub returns-clause-arrivals : goal.returns-clause-arrivals
returns-clause-arrivals g c = arrivals_go_on g.A.Actor.steps g.B.Actor.steps
