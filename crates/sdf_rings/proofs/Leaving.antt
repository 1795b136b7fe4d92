-- Rings are drained, one after another.
use Rattle.std.proofs.Common.{◌≡◌, ◌≢◌, ℕ, ◌<◌, List, length, Vec, vec_len, get_or, get_or-set_other, refl, arith, ◌∙◌}
use Rattle.std.proofs.Common.{ap, inl, inr}
use Rattle.std.specs.Vec.{with_item}
use Rattle.std.specs.Global.{Global}
use Rattle.rtrb.specs.declared.consumer.Consumer.{Consumer}
use Rattle.rtrb.specs.declared.AnyItems.{AnyItems}
use Rattle.sdf_actor.specs.Steps.{Steps}
use Rattle.sdf_actor.specs.Nets.{Netlist, wire}
use Rattle.sdf_rings.specs.declared.seat.ring_node.RingNode.{RingNode}
use Rattle.sdf_rings.specs.declared.seat.Seat.{Seat}
use Rattle.sdf_rings.specs.declared.rings.meet.RingEnd.{RingEnd}
use Rattle.sdf_rings.specs.Places.{ring_node_at, consumer_at, HoldsOfRingNode, OnlyIns, TakesAt, SameRingNode}
use Rattle.sdf_rings.specs.Places.{SameButEnds}
use Rattle.sdf_rings.specs.Places.{IsDrained}
use Rattle.sdf_rings.specs.Rests.{consumer_of, IsPlaced, RingsValue, AreRings, ring_end_of, AreGiven}
use Rattle.sdf_rings.proofs.Placed.{one_node, ins_of}
use Rattle.sdf_rings.proofs.Swaps.{ins_changed, ends_join, seat_join_same, same_place, ButEnds, same_member_of}
use Rattle.sdf_rings.proofs.Syncs.{some, some_ring_node}

module _ {A T S : Type 0} where
  -- the consumers of a ring node are taken out, one is changed, and they are put back
  pub emptied : (s0 s1 s2 : List (Seat A T S)) (at : RingEnd) (v0 v1 : Vec (Consumer T Global AnyItems) Global)
      (c : Consumer T Global AnyItems)
      → TakesAt s0 at
      → OnlyIns s0 s1 at.seat at.ring_node v0
      → HoldsOfRingNode (λ (x : RingNode A T S). v1 ≡ x.ins) s0 at.seat at.ring_node
      → OnlyIns s1 s2 at.seat at.ring_node (with_item v1 at.port c)
      → IsDrained s0 s2 at
  emptied s0 s1 s2 at v0 v1 c there u1 had u2 =
      let e0 = some s0 at.seat there.seat_in in
      let d0 = some_ring_node s0 at.seat at.ring_node there.ring_node_in e0 in
      let a = ins_changed s0 s1 at.seat at.ring_node v0 u1 in
      let z = ins_changed s1 s2 at.seat at.ring_node (with_item v1 at.port c) u2 in
      let but : (j l : ℕ) (e : Seat A T S) (d : RingNode A T S) →
      ButEnds (ring_node_at s0 j l e d) (ring_node_at s2 j l e d) =
      λ j l e d. ends_join _ _ _ (a.but j l e d) (z.but j l e d) in
      record {
        but_ends = record {
          all_same = (u2 e0 d0).len ∙ (u1 e0 d0).len;
          each_seat = λ j e. seat_join_same _ _ _ ((u1 e d0).seats j e) ((u2 e d0).seats j e);
          each_ring_node = λ j l e d. same_member_of (ring_node_at s0 j l e d) (ring_node_at s2 j l e d) (but j l e d)
              (elim (same_place j l at.seat at.ring_node) as (λ _. vec_len (ring_node_at s2 j l e d).ins ≡
              vec_len (ring_node_at s0 j l e d).ins) [
                | inl h ↦ rw (h.0, h.1, z.ins_here e d) (ap
                    (λ (v : Vec (Consumer T Global AnyItems) Global). vec_len v) (had e d))
                | inr h ↦ ap (λ (v : Vec (Consumer T Global AnyItems) Global). vec_len v)
                    (z.ins_other j l e d h ∙ a.ins_other j l e d h)
              ]) (ap (λ (v : Vec _ Global). vec_len v) (z.outs_is j l e d ∙ a.outs_is j l e d));
        };
        others_kept = λ q e d x apart. elim (same_place q.seat q.ring_node at.seat at.ring_node) as (λ _.
            consumer_at s2 q e d
            x ≡ consumer_at s0 q e d x) [
              | inl h ↦ let ne : q.port ≢ at.port = λ k. apart (h.0, h.1, k) in
                  rw (h.0, h.1) (ap (λ (v : Vec (Consumer T Global AnyItems) Global). get_or v.items q.port x)
                  (z.ins_here e d) ∙ get_or-set_other v1.items at.port q.port c x ne
                  ∙ ap (λ (v : Vec (Consumer T Global AnyItems) Global). get_or v.items q.port x) (had e d))
              | inr h ↦ ap (λ (v : Vec (Consumer T Global AnyItems) Global). get_or v.items q.port x)
                  (z.ins_other q.seat q.ring_node e d h ∙ a.ins_other q.seat q.ring_node e d h)
            ];
      }

  same_ring_node : (x : RingNode A T S) → SameRingNode x x
  same_ring_node x = record {
    actor_same = refl;
    state_same = refl;
    takes_same = refl;
    puts_same = refl;
    taken_same = refl;
    put_same = refl;
    done_same = refl;
    asked_same = refl;
    ins_len_same = refl;
    outs_len_same = refl;
  }

  pub same_none : (seats : List (Seat A T S)) → SameButEnds seats seats
  same_none seats = record {
    all_same = refl;
    each_seat = λ j e.
        record { processor_same = refl; left_same = refl; next_same = refl; ring_nodes_same = refl };
    each_ring_node = λ j l e d. same_ring_node (ring_node_at seats j l e d);
  }

  pub same_join : (s0 s1 s2 : List (Seat A T S)) → SameButEnds s0 s1 → SameButEnds s1 s2 → SameButEnds s0 s2
  same_join s0 s1 s2 p q = record {
    all_same = q.all_same ∙ p.all_same;
    each_seat = λ j e. seat_join_same _ _ _ (p.each_seat j e) (q.each_seat j e);
    each_ring_node = λ j l e d. let v = p.each_ring_node j l e d in let w = q.each_ring_node j l e d in record {
      actor_same = w.actor_same ∙ v.actor_same;
      state_same = w.state_same ∙ v.state_same;
      takes_same = w.takes_same ∙ v.takes_same;
      puts_same = w.puts_same ∙ v.puts_same;
      taken_same = w.taken_same ∙ v.taken_same;
      put_same = w.put_same ∙ v.put_same;
      done_same = w.done_same ∙ v.done_same;
      asked_same = w.asked_same ∙ v.asked_same;
      ins_len_same = w.ins_len_same ∙ v.ins_len_same;
      outs_len_same = w.outs_len_same ∙ v.outs_len_same;
    };
  }

  module _ {n : Netlist A T} {seats new : List (Seat A T S)} {places : List (ℕ × ℕ)} (placed : IsPlaced n seats places)
      (same : SameButEnds seats new) where
    pub placed_kept : IsPlaced n new places
    placed_kept = record {
      seat_in = λ a l. let h = placed.seat_in a l in let m = same.all_same in omega (arith, h, m);
      ring_node_in = λ a e l. let h = placed.ring_node_in a e l in let m =
          (same.each_seat (get_or places a (0, 0)).0 e).ring_nodes_same in omega (arith, h, m);
      is = λ a e d l. (same.each_ring_node (get_or places a (0, 0)).0 (get_or places a (0, 0)).1 e d).actor_same
          ∙ placed.is a e d l;
    }

    -- the lists of the sinks are the same
    pub given_kept : (m : ℕ) (outputs : List (Vec T Global)) → AreGiven n new places m outputs →
        AreGiven n seats places m outputs
    given_kept m outputs given a ext block made e d l is at =
        given a ext block made e d l is ((same.each_ring_node (get_or places a (0, 0)).0 (get_or places a (0, 0)).1 e
        d).state_same ∙ at)

  module _ {s : Steps A S T} {hand : RingsValue A S T} (r : AreRings s hand) {cur : List (Seat A T S)}
      (same : SameButEnds hand.seats cur) {m : ℕ} (known : m < length hand.net.wires) where
    open hand use {net as n, inputs, seats, places}

    -- the ring of a channel has a place for its consumer
    pub takes_at : TakesAt cur (ring_end_of places (wire n m).to)
    takes_at =
        let to = r.is_net.to_in m known in
        let b : ℕ = (wire n m).to.0 in
        let i : ℕ = (get_or places b (0, 0)).0 in
        let k : ℕ = (get_or places b (0, 0)).1 in
        let placed = placed_kept r.placed same in
        record {
          seat_in = placed.seat_in b to.0;
          ring_node_in = λ e. placed.ring_node_in b e to.0;
          port_in = λ e d. let h = ins_of r e d to.0 in let j =
              (same.each_ring_node i k e d).ins_len_same in omega (arith, h, j, to.1);
        }

    -- the rings of other channels stay as they are
    pub others_kept : {new : List (Seat A T S)} → IsDrained cur new (ring_end_of places (wire n m).to) →
        {c : ℕ} (e : Seat A T S) (d : RingNode A T S) (x : Consumer T Global AnyItems) → m < c → c < length n.wires →
        consumer_of n new places e d x c ≡ consumer_of n cur places e d x c
    others_kept {new} gone {c} e d x more l =
        gone.others_kept (ring_end_of places (wire n c).to) e d x (λ z.
        let node = one_node r.placed e d (r.is_net.to_in c l).0
        (r.is_net.to_in m known).0 z.0 z.1 in
        let one = r.is_net.to_once c m l known (λ i. (node i, z.2 i)) in omega (arith, one, more))
