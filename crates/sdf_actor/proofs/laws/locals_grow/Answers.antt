use Rattle.sdf_actor.proofs.Theorems.{locals_begin, locals_grow}
use Rattle.sdf_actor.proofs.laws.locals_grow.Goals as goal

pub returns-clause-begins : goal.returns-clause-begins
returns-clause-begins g c = locals_begin g.A.Actor.steps

pub returns-clause-grows : goal.returns-clause-grows
returns-clause-grows g c = locals_grow g.A.Actor.steps
