use Rattle.std.proofs.Common.{◌∙◌, map}
use Rattle.sdf_document.specs.Actors.{actor_view}
use Rattle.sdf_document.specs.Links.{link_view}
use Rattle.sdf_file.specs.Designs.{wire_of}
use Rattle.sdf_why.specs.Channels.{nodes_of}
use Rattle.sdf_why.proofs.Edges.{channel_is}
use Rattle.sdf_why.proofs.channels.channel_of.Goals as goal

pub returns : goal.returns
returns c =
    channel_is (nodes_of (map actor_view c.args.actors.now)) (wire_of (link_view c.args.link.now))
    c.ports_at-from.result c.ports_at-to.result c.in_ok-put.put.items c.in_ok-take.take.items c.len.result
    c.ports_at-from.ensures c.ports_at-to.ensures c.in_ok-put.ensures c.in_ok-take.ensures
    (c.len.ensures ∙ c.args.link.now.initial.ok.0)
