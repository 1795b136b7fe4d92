use Rattle.sdf_actor.proofs.Theorems.{nets_are_wired, ports_have_channels}
use Rattle.sdf_actor.proofs.laws.nets_are_wired.Goals as goal

pub returns-clause-wired : goal.returns-clause-wired
returns-clause-wired g c = nets_are_wired g.A.Actor.steps

pub returns-clause-ports : goal.returns-clause-ports
returns-clause-ports g c = ports_have_channels g.A.Actor.steps
