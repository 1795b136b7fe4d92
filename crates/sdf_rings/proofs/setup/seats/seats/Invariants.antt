use Rattle.std.proofs.Common.{◌≡◌, slice_index, vec_len}
use Rattle.sdf_graph.specs.Sequences.{repeated}
use Rattle.sdf_actor.specs.Wires.{lists}
use Rattle.sdf_rings.proofs.Seating.{AreFilled}
use Rattle.sdf_rings.proofs.setup.seats.seats.Given as goal

abbrev pub invariant-loop-seat : goal.invariant-loop-seat
invariant-loop-seat g l = record {
  len : vec_len l.seats ≡ l.seat;
  filled : AreFilled g.A.Actor.steps l.start.net.now (lists l.start.inputs.now) (slice_index l.start.asked.items)
      l.initial.ends.producers.items l.initial.ends.consumers.items l.assigned.places.now
      (repeated l.assigned.blocks l.assigned.order.now) l.seat l.seats.items l.ends.producers.items
      l.ends.consumers.items;
}
