use Rattle.std.proofs.Common.{arith, below_more, length, sym, ap, ◌∙◌}
use Rattle.std.specs.Prelude.{is_some}
use Rattle.sdf_actor.specs.Sides.{list_of}
use Rattle.sdf_actor.proofs.Readings.{node_read, first_on_is}
use Rattle.sdf_actor.proofs.checks.samples.first_with.Goals as goal

pub returns-then-is_some : goal.returns-then-is_some
returns-then-is_some g c =
    let read = node_read c.args.nodes.now c.loop-a.a c.index-nodes-a.result c.loop-a-test.true c.index-nodes-a.is in
    first_on_is c.args.nodes.now c.args.lists c.loop-a.a (omega arith) c.loop-a.invariant
    (λ h. ap (λ x. is_some (list_of c.args.lists x)) read
    ∙ (sym (ap is_some c.list.ensures.value) ∙ (sym c.is_some.ensures ∙ c.if-is_some.true)))

pub loop-a-preserved : goal.loop-a-preserved
loop-a-preserved g c =
    let read = node_read c.args.nodes.now c.loop-a.a c.index-nodes-a.result c.loop-a-test.true c.index-nodes-a.is in
    below_more _ _ c.loop-a.invariant
    (ap (λ x. is_some (list_of c.args.lists x)) read
    ∙ (sym (ap is_some c.list.ensures.value) ∙ (sym c.is_some.ensures ∙ c.if-is_some.false)))

pub returns : goal.returns
returns g c =
    first_on_is c.args.nodes.now c.args.lists (length c.args.nodes.now) (omega arith)
    (λ k h. c.loop-a.invariant k (omega arith)) (λ h. absurd (omega arith))
