use Rattle.std.proofs.Common.{slice_index}
use Rattle.sdf_actor.specs.Wires.{lists}
use Rattle.sdf_rings.proofs.Seating.{IsSeating}
use Rattle.sdf_rings.proofs.setup.seats.ring_nodes.Given as goal

abbrev pub invariant-loop-a : goal.invariant-loop-a
invariant-loop-a g l =
    IsSeating g.A.Actor.steps l.start.net.now (lists l.start.inputs.now) (slice_index l.start.asked.items)
    l.initial.ends.producers.items l.initial.ends.consumers.items l.places l.seat
    l.a l.ring_nodes.items l.ends.producers.items l.ends.consumers.items
