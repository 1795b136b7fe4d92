use Rattle.std.proofs.Common.{◌≡◌, map, take}
use Rattle.sdf_actor.specs.Graphs.{channel_of}
use Rattle.sdf_kit.specs.Kit.{kit_steps}
use Rattle.sdf_document.specs.Actors.{actor_view}
use Rattle.sdf_document.specs.Links.{link_view}
use Rattle.sdf_file.specs.Designs.{wire_of}
use Rattle.sdf_why.specs.Channels.{nodes_of}
use Rattle.sdf_why.proofs.channels.channels_of.Given as goal

abbrev pub invariant-loop-link : goal.invariant-loop-link
invariant-loop-link l = l.channels.items ≡
    map (channel_of kit_steps (nodes_of (map actor_view l.actors)))
    (map wire_of (map link_view (take l.link-index l.links)))
