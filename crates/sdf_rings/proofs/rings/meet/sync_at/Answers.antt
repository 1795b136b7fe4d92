use Rattle.std.proofs.Common.{◌≡◌, slice_index_or, sym, ◌∙◌, ap, arith, Vec}
use Rattle.sdf_rings.specs.Places.{ring_node_at, consumer_at}
use Rattle.sdf_rings.proofs.Swaps.{ins_changed, in_vec}
use Rattle.sdf_rings.proofs.Syncs.{synced, some, some_ring_node}
use Rattle.sdf_rings.proofs.rings.meet.sync_at.Goals as goal

pub index_mut-requires : goal.index_mut-requires
index_mut-requires g c =
    let t = c.requires.ring.takes_there in
    let e0 = some c.args.seats.now c.args.to.seat t.seat_in in
    let d0 = some_ring_node c.args.seats.now c.args.to.seat c.args.to.ring_node t.ring_node_in e0 in
    rw (c.swap_ins.ensures.ins e0 d0) (t.port_in e0 d0)

pub sync_producer-requires-clause-there : goal.sync_producer-requires-clause-there
sync_producer-requires-clause-there g c κs within =
    let t = c.requires.ring.takes_there in
    let p = c.requires.ring.puts_there in
    let a = ins_changed c.args.seats.now c.swap_ins.new.seats c.args.to.seat c.args.to.ring_node c.new-ins.result
    c.swap_ins.ensures.seats in
    record {
      seat_in = omega (arith, p.seat_in, c.swap_ins.auto.seats);
      ring_node_in = λ e.
          let d = some_ring_node c.args.seats.now c.args.to.seat c.args.to.ring_node t.ring_node_in e in
          rw (((c.swap_ins.ensures.seats e d).seats c.args.from.seat e).ring_nodes_same) (p.ring_node_in e);
      port_in = λ e d. rw (a.outs_is c.args.from.seat c.args.from.ring_node e d) (p.port_in e d);
    }

pub sync_producer-requires-clause-pair : goal.sync_producer-requires-clause-pair
sync_producer-requires-clause-pair g c κs within = λ e d x.
    let a = ins_changed c.args.seats.now c.swap_ins.new.seats c.args.to.seat c.args.to.ring_node c.new-ins.result
    c.swap_ins.ensures.seats in
    let now = c.index_mut.result.now in
    let was : consumer_at c.args.seats.now c.args.to e d now ≡ now =
    ap (λ (v : Vec _ _). slice_index_or v.items c.args.to.port now) (sym (c.swap_ins.ensures.ins e d))
    ∙ sym c.index_mut.ensures.value in
    rw (a.outs_is c.args.from.seat c.args.from.ring_node e d) (rw was at (c.requires.ring.pair_there e d now x))

pub swap_ins-requires-2-clause-ring_node : goal.swap_ins-requires-2-clause-ring_node
swap_ins-requires-2-clause-ring_node g c κs within = λ e.
    let t = c.requires.ring.takes_there in
    let p = c.requires.ring.puts_there in
    let d = some_ring_node c.args.seats.now c.args.to.seat c.args.to.ring_node t.ring_node_in e in
    let y = some (ring_node_at c.args.seats.now c.args.from.seat c.args.from.ring_node e d).outs.items c.args.from.port
    (in_vec (ring_node_at c.args.seats.now c.args.from.seat c.args.from.ring_node e d).outs c.args.from.port
    (p.port_in e d)) in
    rw (
      ((c.sync_producer.ensures.seats e d y).seats c.args.to.seat e).ring_nodes_same,
      ((c.swap_ins.ensures.seats e d).seats c.args.to.seat e).ring_nodes_same,
    ) (t.ring_node_in e)

pub returns : goal.returns
returns g c = synced c.args.seats.now c.swap_ins.new.seats c.sync_producer.new.seats c.swap_ins-2.new.seats c.args.from
    c.args.to c.new-ins.result c.swap_ins.new.ins c.index_mut.result.now c.sync_producer.new.consumer
    c.requires.ring c.swap_ins.ensures.seats c.swap_ins.ensures.ins c.index_mut.ensures.value
    c.sync_producer.ensures.seats c.sync_producer.ensures.consumer c.sync_producer.ensures.producer
    c.sync_producer.ensures.met c.swap_ins-2.ensures.seats
