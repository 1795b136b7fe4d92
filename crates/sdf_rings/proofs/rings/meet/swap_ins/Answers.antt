use Rattle.std.proofs.Common.{sym, ◌∙◌, ap}
use Rattle.sdf_rings.specs.declared.seat.ring_node.RingNode.{RingNode}
use Rattle.sdf_rings.proofs.Places.{at_ring_node, ring_node_was, updated, update_as}
use Rattle.sdf_rings.proofs.rings.meet.swap_ins.Goals as goal

pub returns-clause-seats : goal.returns-clause-seats
returns-clause-seats g c = λ e d.
    let now = c.index_mut.result.now in
    let here = at_ring_node c.args.seats.now c.args.seat c.args.ring_node c.index-seats-seat.result now c.requires.seat
    c.requires.ring_node c.index_mut.ensures.value in
    let y = record now { ins = c.swap.new.x } in
    update_as c.args.seats.now _ c.args.seat c.args.ring_node y _
    (ap (λ v. record now { ins = v }) c.swap.ensures.x_after
    ∙ ap (λ (s : RingNode _ _ _). record s { ins = c.args.ins.now }) (sym (ring_node_was here e d))) (updated here y)
