use Rattle.std.proofs.Common.{get_or, arith, refl}
use Rattle.sdf_graph.specs.Rates.{rates}
use Rattle.sdf_draw.proofs.Deep.{deep_more, deep_all}
use Rattle.sdf_draw.proofs.depths.depths.Goals as goal

pub loop-actor-preserved : goal.loop-actor-preserved
loop-actor-preserved c =
    deep_more (rates c.args.graph.now) c.args.order.now c.loop-actor.depths.items c.fire.new.depths.items
    c.loop-actor.actor-index (get_or c.args.order.now c.loop-actor.actor-index 0) c.loop-actor.invariant
    (omega (arith, c.loop-actor-test.true)) refl c.fire.ensures.all c.fire.ensures.others c.fire.ensures.some
    c.fire.ensures.kept c.fire.ensures.first

pub returns : goal.returns
returns c =
    deep_all (rates c.args.graph.now) c.args.order.now c.loop-actor.depths.items c.loop-actor.actor-index
    c.loop-actor.invariant (omega (arith, c.loop-actor-test.false, c.loop-actor.auto.actor-index-end))
