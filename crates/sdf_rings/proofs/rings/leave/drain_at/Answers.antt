use Rattle.std.proofs.Common.{slice_index_or, ◌∙◌, ap, Vec}
use Rattle.std.proofs.lemmas.List.{get_or_default}
use Rattle.rtrb.specs.Ring.{known_items}
use Rattle.sdf_rings.proofs.Leaving.{emptied}
use Rattle.sdf_rings.proofs.Swaps.{in_vec}
use Rattle.sdf_rings.proofs.Syncs.{some, some_ring_node}
use Rattle.sdf_rings.proofs.rings.leave.drain_at.Goals as goal

pub index_mut-requires : goal.index_mut-requires
index_mut-requires g c =
    let t = c.requires.there in
    let e0 = some c.args.seats.now c.args.at.seat t.seat_in in
    let d0 = some_ring_node c.args.seats.now c.args.at.seat c.args.at.ring_node t.ring_node_in e0 in
    rw (c.swap_ins.ensures.ins e0 d0) (t.port_in e0 d0)

pub swap_ins-requires-2-clause-ring_node : goal.swap_ins-requires-2-clause-ring_node
swap_ins-requires-2-clause-ring_node g c κs within = λ e.
    let t = c.requires.there in
    let d = some_ring_node c.args.seats.now c.args.at.seat c.args.at.ring_node t.ring_node_in e in
    rw (((c.swap_ins.ensures.seats e d).seats c.args.at.seat e).ring_nodes_same) (t.ring_node_in e)

pub returns-clause-items : goal.returns-clause-items
returns-clause-items g c = λ e d x.
    let t = c.requires.there in
    let now = c.index_mut.result.now in
    let v = c.swap_ins.new.ins in
    let port = in_vec v c.args.at.port (rw (c.swap_ins.ensures.ins e d) (t.port_in e d)) in
    c.in_ok-items.ensures ∙ ap known_items (c.index_mut.ensures.value ∙ get_or_default v.items c.args.at.port now x port
    ∙ ap (λ (w : Vec _ _). slice_index_or w.items c.args.at.port x) (c.swap_ins.ensures.ins e d))

pub returns-clause-kept : goal.returns-clause-kept
returns-clause-kept g c = emptied c.args.seats.now c.swap_ins.new.seats c.swap_ins-2.new.seats c.args.at
    c.new-ins.result c.swap_ins.new.ins c.drain.new.end c.requires.there c.swap_ins.ensures.seats c.swap_ins.ensures.ins
    c.swap_ins-2.ensures.seats
