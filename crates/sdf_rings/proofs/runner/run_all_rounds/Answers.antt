use Rattle.std.proofs.Common.{sym, subst, arith}
use Rattle.sdf_actor.specs.Wires.{lists}
use Rattle.sdf_queues.proofs.Theorems.{nets_have_periods}
use Rattle.sdf_rings.specs.Rests.{HaveMet}
use Rattle.sdf_rings.proofs.Answered.{few_rounds, has_ended}
use Rattle.sdf_rings.proofs.runner.run_all_rounds.Goals as goal

pub run-rounds-requires-clause-met : goal.run-rounds-requires-clause-met
run-rounds-requires-clause-met g c κs within =
    subst (λ n. HaveMet n c.in_ok-rings.rings.seats c.in_ok-rings.rings.places) (sym c.in_ok-rings.ensures.2.net_is)
    c.in_ok-rings.ensures.2.met

pub run-rounds-requires-clause-count : goal.run-rounds-requires-clause-count
run-rounds-requires-clause-count g c κs within =
    few_rounds
    g.A.Actor.steps c.args.net.now c.args.table.now.period
    (nets_have_periods g.A.Actor.steps c.args.net.now c.in_ok-rings.ensures.2.accepted c.args.table.now.period
    c.requires.fits.period)
    c.args.table.now.blocking c.args.table.now.table
    c.requires.fits.table c.args.blocks (lists c.args.inputs.now) c.in_ok-rings.rings
    c.in_ok-rings.ensures.2
    (omega (arith, c.ranges.blocks.fits))

pub returns : goal.returns
returns g c =
    let run = c.run-rounds.ensures in
    has_ended
    g.A.Actor.steps c.args.net.now c.args.table.now.period
    (nets_have_periods g.A.Actor.steps c.args.net.now c.in_ok-rings.ensures.2.accepted c.args.table.now.period
    c.requires.fits.period)
    c.args.table.now.blocking c.args.table.now.table
    c.requires.fits.table c.args.blocks (lists c.args.inputs.now) c.in_ok-rings.rings
    c.in_ok-rings.ensures.2
    c.run-rounds.new.self c.args.workers.patience c.run-rounds.result c.in_ok-rings.ensures.0
    (omega (arith, c.if-workers-gt-MAX_PATIENCE.false)) c.in_ok-rings.ensures.1
    run.same run.planned run.met run.done run.rounds run.some
