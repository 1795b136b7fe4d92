use Rattle.std.proofs.Common.{◌≡◌, ◌<◌, length, slice_index_or, arith, sym, ap, ◌∙◌, Option}
use Rattle.sdf_actor.specs.Nets.{node}
use Rattle.sdf_rings.specs.declared.seat.ring_node.RingNode.{RingNode}
use Rattle.sdf_node.specs.Kept.{kept_state}
use Rattle.sdf_rings.specs.Rests.{ring_node_of}
use Rattle.sdf_rings.proofs.Lists.{push_each, vec_long}
use Rattle.sdf_rings.proofs.Places.{at_ring_node, ring_node_was}
use Rattle.sdf_rings.proofs.rings.leave.states_of.Goals as goal

pub loop-a-preserved : goal.loop-a-preserved
loop-a-preserved g c =
    let n = c.args.net.now in
    let seats = c.args.seats.now in
    let places = c.args.places.now in
    let a = c.loop-a.a in
    let l : a < length n.nodes = omega (arith, c.loop-a-test.true, c.len-a-end.ensures) in
    let r = c.index-ring_node.result.now in
    let here = at_ring_node seats (slice_index_or places a (0, 0)).0 (slice_index_or places a (0, 0)).1
    c.index-seats-place.result r (c.requires.placed.seat_in a l) (λ e. c.requires.placed.ring_node_in a e l)
    c.index-ring_node.ensures in
    record {
      all = omega (
        arith,
        c.in_ok-push.ensures.len,
        vec_long c.loop-a.states,
        vec_long c.push.new.self,
        c.loop-a.invariant.all,
      );
      each = λ b z e d h. push_each (λ k (y : Option _).
          y ≡ kept_state (node n k) (ring_node_of n seats places e d k).state)
          c.loop-a.states.items c.push.new.self.items c.in_ok-kept.field-0 a c.in_ok-push.ensures.items
          c.loop-a.invariant.all (λ k w m. c.loop-a.invariant.each k w e d m)
          (c.in_ok-kept.ensures ∙ (ap (λ x. kept_state x r.state) c.node.ensures.value ∙
          ap (λ (y : RingNode _ _ _). kept_state (node n a) y.state) (sym (ring_node_was here e d)))) b z h;
    }
