use Rattle.std.proofs.Common.{◌≡◌, ◌∙◌, arith}
use Rattle.sdf_graph.specs.Rates.{rates}
use Rattle.sdf_prec.proofs.Stretches.{one_home_more, spread_homed}
use Rattle.sdf_prec.proofs.spread.spread.Goals as goal

pub loop-actor-preserved : goal.loop-actor-preserved
loop-actor-preserved c = rw c.in_ok-push.ensures.items
    (one_home_more (rates c.args.graph.now) c.args.weights.now c.args.m c.loop-actor.homes.items c.loop-actor.actor
    c.loop-actor.invariant.all c.loop-actor.invariant.each c.stretch_start-first.result
    c.stretch_end-past.result c.share.result
    c.stretch_start-first.ensures c.stretch_end-past.ensures c.share.ensures.is)

pub returns-clause-homed : goal.returns-clause-homed
returns-clause-homed c =
    let end : c.loop-actor.actor ≡ c.args.graph.now.actors =
    omega (arith, c.loop-actor.auto.actor-end, c.loop-actor-test.false, c.actors-actor-end.ensures.count) in
    spread_homed (rates c.args.graph.now) c.args.weights.now c.args.m
    c.loop-actor.homes.items c.requires.weights (omega (arith, c.requires.workers.0)) (record {
      all = c.loop-actor.invariant.all ∙ end;
      each = λ a l. c.loop-actor.invariant.each a (omega (arith, end));
    })
