use Rattle.std.proofs.Common.{◌<◌, ◌+◌, ℕ, None, length, get_or, sym, ap, ◌∙◌, subst, arith}
use Rattle.std.proofs.lemmas.List.{get_or_read, length_push}
use Rattle.sdf_actor.specs.declared.node.Node.TheVariants.{Sink}
use Rattle.sdf_actor.specs.Resumed.{MayBegin}
use Rattle.sdf_actor.specs.ResumedSteps.{resumed_steps}
use Rattle.sdf_actor.specs.NetStates.{IsResumedNode}
use Rattle.sdf_actor.proofs.ResumedGraphs.{each_pushed}
use Rattle.sdf_actor.proofs.Readings.{node_read}
use Rattle.sdf_actor.proofs.resumed_nets.resumed_nodes.Goals as goal

pub resumed_node-requires-after_bounds : goal.resumed_node-requires-after_bounds
resumed_node-requires-after_bounds g c κs within =
    let low = c.loop-a-test.true in
    let node = node_read c.args.nodes.now c.loop-a.a c.index-nodes-a.result low c.index-nodes-a.is in
    let state = sym (get_or_read c.args.states.now c.loop-a.a c.index-states-a.result
    (omega (arith, c.requires.all, low)) c.index-states-a.is None) in
    subst (λ x. MayBegin g.A.Actor.steps c.index-states-a.result x) node
    (subst (λ t. MayBegin g.A.Actor.steps t (get_or c.args.nodes.now c.loop-a.a (Sink 0 0))) state
    (c.requires.each c.loop-a.a low))

pub loop-a-preserved : goal.loop-a-preserved
loop-a-preserved g c =
    let low = c.loop-a-test.true in
    let node = node_read c.args.nodes.now c.loop-a.a c.index-nodes-a.result low c.index-nodes-a.is in
    let state = sym (get_or_read c.args.states.now c.loop-a.a c.index-states-a.result
    (omega (arith, c.requires.all, low)) c.index-states-a.is None) in
    let items = c.in_ok-push.ensures.items in
    record {
      all = ap length items ∙ (length_push c.loop-a.begun.items c.in_ok-resumed_node.field-0
          ∙ ap (λ n. n + 1) c.loop-a.invariant.all);
      each = subst (λ v. (b : ℕ) → b < c.loop-a.a + 1 →
          IsResumedNode g.A.Actor.steps (resumed_steps g.A.Actor) (get_or c.args.states.now b None)
          (get_or c.args.nodes.now b (Sink 0 0)) (get_or v b (Sink 0 0))) (sym items)
          (each_pushed (λ b y. IsResumedNode g.A.Actor.steps (resumed_steps g.A.Actor) (get_or c.args.states.now b None)
          (get_or c.args.nodes.now b (Sink 0 0)) y)
          c.loop-a.begun.items c.in_ok-resumed_node.field-0 (Sink 0 0) c.loop-a.a c.loop-a.invariant.all
          c.loop-a.invariant.each
          (subst (λ x. IsResumedNode g.A.Actor.steps (resumed_steps g.A.Actor)
          (get_or c.args.states.now c.loop-a.a None) x
          c.in_ok-resumed_node.field-0) (sym node)
          (subst (λ t. IsResumedNode g.A.Actor.steps (resumed_steps g.A.Actor) t c.index-nodes-a.result
          c.in_ok-resumed_node.field-0) (sym state) c.in_ok-resumed_node.ensures)));
    }
