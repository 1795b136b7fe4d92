use Rattle.std.proofs.Common.{slice_index_or, slice_set, sym, subst}
use Rattle.std.specs.Vec.{with_item}
use Rattle.sdf_node.specs.Collected.{IsCollected}
use Rattle.sdf_rings.specs.declared.seat.ring_node.RingNode.{RingNode}
use Rattle.sdf_rings.specs.Places.{ring_node_at}
use Rattle.sdf_rings.proofs.Places.{at_ring_node, ring_node_was, updated, update_as}
use Rattle.sdf_rings.proofs.rings.finish.collect_from.Goals as goal

pub returns-clause-seats : goal.returns-clause-seats
returns-clause-seats g c = λ e d.
    let f = slice_index_or c.args.seats.now c.args.seat c.index-seats-seat.result in
    let now = c.index_mut.result.now in
    let y = record now { state = c.collect_at.new.state } in
    let u = updated (at_ring_node c.args.seats.now c.args.seat c.args.ring_node c.index-seats-seat.result now
    c.requires.seat
    c.requires.ring_node c.index_mut.ensures.value) y in
    let new = slice_set c.args.seats.now c.args.seat
    (record f { ring_nodes = with_item f.ring_nodes c.args.ring_node y }) in
    update_as c.args.seats.now new c.args.seat c.args.ring_node y (ring_node_at new c.args.seat c.args.ring_node e d)
    (sym (u.here e d)) u

pub returns-clause-list : goal.returns-clause-list
returns-clause-list g c = λ e d.
    subst (λ (z : RingNode _ _ _). IsCollected c.args.node.now z.state c.args.outputs.now c.collect_at.new.outputs)
    (sym (ring_node_was (at_ring_node c.args.seats.now c.args.seat c.args.ring_node c.index-seats-seat.result
    c.index_mut.result.now c.requires.seat c.requires.ring_node c.index_mut.ensures.value) e d))
    c.collect_at.ensures.collected
