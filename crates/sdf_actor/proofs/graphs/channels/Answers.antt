use Rattle.std.proofs.Common.{arith, ◌++◌, ◌∷◌, [], map, take, sym, ap, ◌∙◌, subst}
use Rattle.std.proofs.lemmas.List.{map_more}
use Rattle.sdf_actor.specs.Nets.{no_wire}
use Rattle.sdf_actor.specs.Wires.{wires}
use Rattle.sdf_actor.specs.Graphs.{channel_of}
use Rattle.sdf_actor.specs.NetFaults.{HasEnds}
use Rattle.sdf_actor.proofs.Readings.{wire_read, length-wires}
use Rattle.sdf_actor.proofs.graphs.channels.Goals as goal

pub channel-requires-after_bounds : goal.channel-requires-after_bounds
channel-requires-after_bounds g c κs known =
    let low = c.loop-link-test.true in
    let read = wire_read c.args.links.now c.loop-link.link-index c.link-item.result low c.link-item.is in
    subst (HasEnds g.A.Actor.steps c.args.nodes.now) read (c.requires c.loop-link.link-index low)

pub loop-link-preserved : goal.loop-link-preserved
loop-link-preserved g c =
    let low = c.loop-link-test.true in
    let s = g.A.Actor.steps in
    let many = length-wires c.args.links.now in
    let read = wire_read c.args.links.now c.loop-link.link-index c.link-item.result low c.link-item.is in
    c.in_ok-push.ensures.items ∙
    (ap (λ xs. xs ++ c.in_ok-channel.field-0 ∷ []) c.loop-link.invariant ∙
    (ap (λ x. map (channel_of s c.args.nodes.now) (take c.loop-link.link-index (wires c.args.links.now)) ++ x ∷ [])
    (c.in_ok-channel.ensures ∙ ap (channel_of s c.args.nodes.now) (sym read)) ∙
    sym (map_more (channel_of s c.args.nodes.now) (wires c.args.links.now) c.loop-link.link-index no_wire
    (omega arith))))
