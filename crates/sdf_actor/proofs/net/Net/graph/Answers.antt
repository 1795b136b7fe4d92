use Rattle.sdf_actor.proofs.Making.{accepted_at}
use Rattle.sdf_actor.proofs.net.Net.graph.Goals as goal

pub returns-clause-accepted : goal.returns-clause-accepted
returns-clause-accepted g c = accepted_at c.self.view_is c.self.invariant.accepted
