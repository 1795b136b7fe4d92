use Rattle.std.proofs.Common.{◌≡◌, ◌≤◌, ◌*◌, ap, ◌∙◌, length, slice_index, subst, sym, rules}
use Rattle.sdf_actor.specs.Graphs.{graph_of}
use Rattle.sdf_kit.specs.Kit.{kit_steps}
use Rattle.sdf_prec.specs.Spread.{AreLoads}
use Rattle.sdf_plan.specs.Weights.{firing_weight, weights_by}
use Rattle.sdf_plan.proofs.Weighing.{are_loads, one_more}
use Rattle.sdf_plan.proofs.weights.weights_by.Goals as goal

pub loop-actor-preserved : goal.loop-actor-preserved
loop-actor-preserved c =
    let firings = c.repetitions-repetitions.result.now in
    c.in_ok-push.ensures.items
    ∙ one_more (λ a. slice_index firings a * firing_weight c.args.design.now c.args.by_kind a) c.loop-actor.actor
    c.loop-actor.weights.items (c.from.result * c.firing_weight.result) c.loop-actor.invariant
    (ap (λ x. x * c.firing_weight.result) c.from.ensures
    ∙ ap (λ x. slice_index firings c.loop-actor.actor * x) c.firing_weight.ensures.is)

pub returns-clause-loads : goal.returns-clause-loads
returns-clause-loads c =
    let d = c.args.design.now in
    let graph = c.graph.ensures.value ∙ ap (graph_of kit_steps) c.net.ensures.value in
    let few : length d.net.nodes ≤ 64 = subst (λ g. g.actors ≤ 64) graph c.actors-actor-end.ensures.shape.few in
    let are : c.loop-actor.weights.items ≡ weights_by d c.args.by_kind c.args.period.now.repetitions = search rules in
    subst (AreLoads (length d.net.nodes)) (sym are)
    (are_loads d c.args.by_kind c.args.period.now c.net.ensures.whole c.requires few)
