use Rattle.std.proofs.Common.{◌≡◌, map, take}
use Rattle.sdf_actor.specs.Graphs.{channel_of}
use Rattle.sdf_actor.specs.Wires.{wires}
use Rattle.sdf_actor.proofs.graphs.channels.Given as goal

abbrev pub invariant-loop-link : goal.invariant-loop-link
invariant-loop-link g l = l.channels.items ≡ map (channel_of g.A.Actor.steps l.nodes)
    (take l.link-index (wires l.links))
