use Rattle.std.proofs.Common.{◌++◌, ◌∷◌, [], map, take, sym, ap, ◌∙◌}
use Rattle.sdf_actor.specs.Graphs.{channel_of}
use Rattle.sdf_kit.specs.Kit.{kit_steps}
use Rattle.sdf_document.specs.Actors.{actor_view}
use Rattle.sdf_document.specs.Links.{link_view}
use Rattle.sdf_file.specs.Designs.{wire_of}
use Rattle.sdf_why.specs.Channels.{nodes_of}
use Rattle.sdf_why.proofs.Edges.{channels_more}
use Rattle.sdf_why.proofs.channels.channels_of.Goals as goal

pub loop-link-preserved : goal.loop-link-preserved
loop-link-preserved c =
    let f = channel_of kit_steps (nodes_of (map actor_view c.args.actors.now)) in
    let before = map f (map wire_of (map link_view (take c.loop-link.link-index c.args.links.now))) in
    c.in_ok-push.ensures.items
    ∙ (ap (λ xs. xs ++ c.in_ok-channel_of.field-0 ∷ []) c.loop-link.invariant
    ∙ (ap (λ x. before ++ x ∷ []) c.in_ok-channel_of.ensures
    ∙ sym (channels_more f c.args.links.now c.loop-link.link-index c.link-item.result c.loop-link-test.true
    c.link-item.is)))
