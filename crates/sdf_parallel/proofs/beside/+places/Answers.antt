use Rattle.std.proofs.Common.{◌++◌, sym, subst, arith}
use Rattle.sdf_parallel.specs.Beside.{ChangesFrom}
use Rattle.sdf_parallel.proofs.Places.{changes_on}
use Rattle.sdf_parallel.proofs.beside.+places.Goals as goal

pub for_each_from-returns-clause-each : goal.for_each_from-returns-clause-each
for_each_from-returns-clause-each g t c =
    let cut = c.split_at_mut-first in
    subst (λ z. ChangesFrom g.F.Fn c.args.f.now c.args.i z (c.first_beside.new.first ++ c.first_beside.new.others))
    (sym cut.ensures.value) (changes_on g.F.Fn c.args.f.now c.args.i cut.result.0.now cut.result.1.now
    c.first_beside.new.first
    c.first_beside.new.others (omega arith) (omega (arith, c.first_beside.auto.first)) c.first_beside.ensures.first
    c.first_beside.ensures.others)
