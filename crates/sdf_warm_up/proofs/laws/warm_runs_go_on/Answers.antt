use Rattle.sdf_warm_up.proofs.Theorems.{warm_runs_leave, warm_runs_go_on, parts_go_on}
use Rattle.sdf_warm_up.proofs.laws.warm_runs_go_on.Goals as goal

pub returns-clause-leave : goal.returns-clause-leave
returns-clause-leave g c = warm_runs_leave g.A.Actor.steps

pub returns-clause-go_on : goal.returns-clause-go_on
returns-clause-go_on g c = warm_runs_go_on g.A.Actor.steps

pub returns-clause-parts : goal.returns-clause-parts
returns-clause-parts g c = parts_go_on g.A.Actor.steps
