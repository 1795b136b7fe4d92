use Rattle.std.proofs.Common.{sym, ap, ◌∙◌}
use Rattle.sdf_actor.specs.declared.node.Node.TheVariants as kind
use Rattle.sdf_node.proofs.Collected.{collected_sink}
use Rattle.sdf_node.proofs.collect.collect_at.Goals as goal

pub returns-in-Sink-clause-collected : goal.returns-in-Sink-clause-collected
returns-in-Sink-clause-collected g c =
    let is = c.in-Sink.is ∙ ap (λ i. kind.Sink i c.in-Sink.block) (sym c.from.ensures) in
    collected_sink c.args.node.now c.args.state.now c.args.outputs.now c.from.result c.in-Sink.block
    c.swap_list.new.list is (c.requires c.from.result c.in-Sink.block is) c.swap_list.ensures
