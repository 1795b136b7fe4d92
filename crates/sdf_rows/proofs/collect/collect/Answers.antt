use Rattle.std.proofs.Common.{◌<◌, ◌∙◌, length, get_or, sym, subst, arith}
use Rattle.std.proofs.lemmas.List.{get_or-set_other, get_or_default, length-set}
use Rattle.sdf_node.specs.Collected.{IsCollected}
use Rattle.sdf_queues.proofs.Theorems.{nets_have_facts}
use Rattle.sdf_rows.proofs.Lists.{collected_more}
use Rattle.sdf_rows.proofs.collect.collect.Goals as goal

pub loop-a-preserved : goal.loop-a-preserved
loop-a-preserved g c =
    let n = c.args.net.now in
    let a = c.loop-a.a in
    let known : a < length n.nodes = omega arith in
    let sinks = (nets_have_facts g.A.Actor.steps n c.node.ensures.accepted).sinks in
    record {
      all = c.collect_at.ensures.collected.all ∙ c.loop-a.invariant.all;
      nodes = length-set c.loop-a.states a c.collect_at.new.state ∙ c.loop-a.invariant.nodes;
      rest = λ b w h. get_or-set_other c.loop-a.states a b c.collect_at.new.state w (λ e. absurd (omega arith))
          ∙ c.loop-a.invariant.rest b w (omega arith);
      lists = collected_more n sinks.apart c.args.states.now c.loop-a.outputs
          c.collect_at.new.outputs a known (get_or c.loop-a.states a c.index-states-a.result)
          (λ d. sym (c.loop-a.invariant.rest a d (omega arith))
          ∙ get_or_default c.loop-a.states a d c.index-states-a.result
          (omega (arith, c.loop-a.invariant.nodes, c.requires.states, known)))
          (subst (λ x. IsCollected x (get_or c.loop-a.states a c.index-states-a.result) c.loop-a.outputs
          c.collect_at.new.outputs) c.node.ensures.value c.collect_at.ensures.collected) c.loop-a.invariant.lists;
    }

pub collect_at-requires-after_bounds : goal.collect_at-requires-after_bounds
collect_at-requires-after_bounds g c κs within = λ ext block x.
    let sinks = (nets_have_facts g.A.Actor.steps c.args.net.now c.node.ensures.accepted).sinks in
    omega (
      arith,
      sinks.below c.loop-a.a ext block (omega arith) (sym c.node.ensures.value ∙ x),
      c.loop-a.invariant.all,
      c.requires.outputs,
    )
