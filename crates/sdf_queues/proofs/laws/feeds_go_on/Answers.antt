use Rattle.sdf_queues.proofs.Theorems.{begun_nets_ask, begun_nets_make, feeds_go_on}
use Rattle.sdf_queues.proofs.laws.feeds_go_on.Goals as goal

pub returns-clause-runs : goal.returns-clause-runs
returns-clause-runs g c = feeds_go_on g.A.Actor.steps g.B.Actor.steps

pub returns-clause-inputs : goal.returns-clause-inputs
returns-clause-inputs g c = begun_nets_ask g.A.Actor.steps g.B.Actor.steps

pub returns-clause-outputs : goal.returns-clause-outputs
returns-clause-outputs g c = begun_nets_make g.A.Actor.steps g.B.Actor.steps
