use Rattle.sdf_queues.proofs.Theorems.{histories_begin, nothing_makes_nothing, sinks_make_outputs, sinks_take_all}
use Rattle.sdf_queues.proofs.laws.histories_make_outputs.Goals as goal

pub returns-clause-begin : goal.returns-clause-begin
returns-clause-begin g c = histories_begin g.A.Actor.steps

pub returns-clause-took : goal.returns-clause-took
returns-clause-took g c = sinks_take_all g.A.Actor.steps

pub returns-clause-outputs : goal.returns-clause-outputs
returns-clause-outputs g c = sinks_make_outputs g.A.Actor.steps

pub returns-clause-nothing : goal.returns-clause-nothing
returns-clause-nothing g c = nothing_makes_nothing g.A.Actor.steps
