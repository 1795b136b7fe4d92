use Rattle.std.proofs.Common.{◌<◌, length, slice_index_or, slice_set, arith, sym, ◌∙◌, ap, subst, get_or-set_same}
use Rattle.std.specs.Vec.{with_item}
use Rattle.sdf_rings.specs.declared.seat.ring_node.RingNode.{RingNode}
use Rattle.rtrb.specs.Ring.{IsPair}
use Rattle.sdf_rings.specs.Ends.{IsMet}
use Rattle.sdf_rings.specs.Places.{producer_at}
use Rattle.sdf_rings.proofs.Places.{AtRingNode, at_ring_node, ring_node_was, updated, update_as, looked_at}
use Rattle.sdf_rings.proofs.rings.meet.sync_producer.Given.{Over}
use Rattle.sdf_rings.proofs.rings.meet.sync_producer.Goals.{After-index_mut}
use Rattle.sdf_rings.proofs.rings.meet.sync_producer.Goals as goal

here : (g : Over) (c : After-index_mut g) → AtRingNode c.args.seats.now c.args.at.seat c.args.at.ring_node
    (slice_index_or c.args.seats.now c.args.at.seat c.index-seats-at.result) c.index_mut.result.now
here g c = at_ring_node c.args.seats.now c.args.at.seat c.args.at.ring_node c.index-seats-at.result
    c.index_mut.result.now
    c.requires.there.seat_in c.requires.there.ring_node_in c.index_mut.ensures.value

port_in : (g : Over) (c : After-index_mut g) → c.args.at.port < length c.index_mut.result.now.outs.items
port_in g c =
    let r = c.index-seats-at.result in
    let now = c.index_mut.result.now in
    let h = rw (ring_node_was (here g c) r now) at (c.requires.there.port_in r now) in
    omega arith

pub bounds-seats-at : goal.bounds-seats-at
bounds-seats-at g c = c.requires.there.seat_in

pub index_mut-requires : goal.index_mut-requires
index_mut-requires g c = c.requires.there.ring_node_in c.index-seats-at.result

pub sync_ring-requires : goal.sync_ring-requires
sync_ring-requires g c =
    let r = c.index-seats-at.result in
    let now = c.index_mut.result.now in
    let q = c.index_mut-2.result.now in
    subst (λ p. IsPair p c.args.consumer.now) (sym c.index_mut-2.ensures.value)
    (subst (λ (s : RingNode _ _ _). IsPair (slice_index_or s.outs.items c.args.at.port q) c.args.consumer.now)
    (ring_node_was (here g (goal.at.sync_ring-requires g c).After-index_mut) r now) (c.requires.pair r now q))

pub returns-clause-consumer : goal.returns-clause-consumer
returns-clause-consumer g c = c.sync_ring.ensures.consumer

pub returns-clause-producer : goal.returns-clause-producer
returns-clause-producer g c =
    let at = (goal.at.returns-clause-producer g c).After-index_mut in
    looked_at (here g at) c.args.at.port c.index_mut-2.result.now c.sync_ring.new.producer (port_in g at)
    c.index_mut-2.ensures.value c.sync_ring.ensures.producer

pub returns-clause-met : goal.returns-clause-met
returns-clause-met g c = λ e d x.
    let at = (goal.at.returns-clause-met g c).After-index_mut in
    let now = c.index_mut.result.now in
    let p = c.sync_ring.new.producer in
    let u = updated (here g at) (record now { outs = with_item now.outs c.args.at.port p }) in
    let synced = ap (λ (s : RingNode _ _ _). slice_index_or s.outs.items c.args.at.port x) (u.here e d)
    ∙ get_or-set_same now.outs.items c.args.at.port p x (port_in g at) in
    subst (λ v. IsMet v c.sync_ring.new.consumer) (sym synced) c.sync_ring.ensures.met

pub returns-clause-seats : goal.returns-clause-seats
returns-clause-seats g c = λ e d x.
    let at = (goal.at.returns-clause-seats g c).After-index_mut in
    let f = slice_index_or c.args.seats.now c.args.at.seat c.index-seats-at.result in
    let now = c.index_mut.result.now in
    let p = c.sync_ring.new.producer in
    let y = record now { outs = with_item now.outs c.args.at.port p } in
    let u = updated (here g at) y in
    let new = slice_set c.args.seats.now c.args.at.seat
    (record f { ring_nodes = with_item f.ring_nodes c.args.at.ring_node y }) in
    let synced = ap (λ (s : RingNode _ _ _). slice_index_or s.outs.items c.args.at.port x) (u.here e d)
    ∙ get_or-set_same now.outs.items c.args.at.port p x (port_in g at) in
    update_as c.args.seats.now new c.args.at.seat c.args.at.ring_node y _
    (ap (λ v. record now { outs = with_item now.outs c.args.at.port v }) (sym synced)
    ∙ ap (λ (s : RingNode _ _ _). record s {
      outs = with_item s.outs c.args.at.port (producer_at new c.args.at e d x);
    }) (sym (ring_node_was (here g at) e d))) u
