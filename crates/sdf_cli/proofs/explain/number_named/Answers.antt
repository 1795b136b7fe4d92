use Rattle.std.proofs.Common.{arith, refl}
use Rattle.sdf_cli.specs.Names.{IsNamed}
use Rattle.sdf_cli.proofs.Named.{none_up_to}
use Rattle.sdf_cli.proofs.explain.number_named.Goals as goal

pub loop-number-preserved : goal.loop-number-preserved
loop-number-preserved c = λ number. none_up_to (λ n. IsNamed n c.args.name.now) number c.loop-number.number
    c.loop-number.invariant (c.if-is_named.ensures.other refl)

pub returns-clause-none : goal.returns-clause-none
returns-clause-none c = λ number named. c.loop-number.invariant number
    (omega (arith, named.within, c.loop-number-test.false)) named
