use Rattle.sdf_queues.proofs.Theorems.{begun_runs_fail, begun_runs_go_on, periods_may_leave}
use Rattle.sdf_queues.proofs.laws.resumed_nets_go_on.Goals as goal

pub returns-clause-whole : goal.returns-clause-whole
returns-clause-whole g c = periods_may_leave g.A.Actor.steps

pub returns-clause-runs : goal.returns-clause-runs
returns-clause-runs g c = begun_runs_go_on g.A.Actor.steps g.B.Actor.steps

pub returns-clause-faults : goal.returns-clause-faults
returns-clause-faults g c = begun_runs_fail g.A.Actor.steps g.B.Actor.steps
