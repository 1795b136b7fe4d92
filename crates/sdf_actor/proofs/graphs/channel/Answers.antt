use Rattle.std.proofs.Common.{get_or, sym, ap, ◌∙◌}
use Rattle.sdf_graph.specs.Rates.{ChannelValue}
use Rattle.sdf_actor.specs.declared.sides.Side.TheVariants.{Input, Output}
use Rattle.sdf_actor.specs.Graphs.{rates_at}
use Rattle.sdf_actor.proofs.Readings.{node_read}
use Rattle.sdf_actor.proofs.graphs.channel.Goals as goal

pub returns : goal.returns
returns g c =
    let s = g.A.Actor.steps in
    let put = c.in_ok-put.ensures ∙ ap (λ x. rates_at s Output x c.args.link.now.from.1)
    (sym (node_read c.args.nodes.now c.args.link.now.from.0 c.index-nodes-link.result c.requires.from.0
    c.index-nodes-link.is)) in
    let take = c.in_ok-take.ensures ∙ ap (λ x. rates_at s Input x c.args.link.now.to.1)
    (sym (node_read c.args.nodes.now c.args.link.now.to.0 c.index-nodes-link-2.result c.requires.to.0
    c.index-nodes-link-2.is)) in
    ap (λ xs. let e : ChannelValue = record {
      from = c.args.link.now.from.0;
      put = xs;
      to = c.args.link.now.to.0;
      take = c.in_ok-take.take.items;
      initial = c.len.result;
    } in e) put ∙
    (ap (λ xs. let e : ChannelValue = record {
      from = c.args.link.now.from.0;
      put = rates_at s Output (get_or c.args.nodes.now c.args.link.now.from.0
          (Rattle.sdf_actor.specs.declared.node.Node.TheVariants.Sink 0 0)) c.args.link.now.from.1;
      to = c.args.link.now.to.0;
      take = xs;
      initial = c.len.result;
    } in e) take ∙
    ap (λ m. let e : ChannelValue = record {
      from = c.args.link.now.from.0;
      put = rates_at s Output (get_or c.args.nodes.now c.args.link.now.from.0
          (Rattle.sdf_actor.specs.declared.node.Node.TheVariants.Sink 0 0)) c.args.link.now.from.1;
      to = c.args.link.now.to.0;
      take = rates_at s Input
          (get_or c.args.nodes.now c.args.link.now.to.0
          (Rattle.sdf_actor.specs.declared.node.Node.TheVariants.Sink 0 0)) c.args.link.now.to.1;
      initial = m;
    } in
    e) (c.len.ensures ∙ c.args.link.now.initial.ok.0))
