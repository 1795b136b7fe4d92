use Rattle.std.proofs.Common.{refl, arith}
use Rattle.sdf_parallel.proofs.beside.for_each_beside.Goals as goal

pub returns-clause-each : goal.returns-clause-each
returns-clause-each g c = λ i d l. (refl, c.for_each_from.ensures.each.each i i d (omega arith) l)
