use Rattle.sdf_queues.proofs.Theorems.{nothing_runs, sinks_make_runs}
use Rattle.sdf_queues.proofs.laws.histories_make_runs.Goals as goal

pub returns-clause-runs : goal.returns-clause-runs
returns-clause-runs g c = sinks_make_runs g.A.Actor.steps

pub returns-clause-nothing : goal.returns-clause-nothing
returns-clause-nothing g c = nothing_runs g.A.Actor.steps
