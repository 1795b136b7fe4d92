-- Both ends of a ring are synchronized, where they are.
use Rattle.std.proofs.Common.{◌≡◌, ◌≢◌, ℕ, ◌<◌, List, [], ◌∷◌, length, Vec, vec_len, slice_index_or, get_or-set_other}
use Rattle.std.proofs.Common.{get_or-set_same, arith, ◌∙◌, ap, sym, inl, inr}
use Rattle.std.proofs.lemmas.List.{get_or_default}
use Rattle.std.specs.Vec.{with_item}
use Rattle.std.specs.Global.{Global}
use Rattle.rtrb.specs.Ring.{ConsumerLooked}
use Rattle.rtrb.specs.declared.producer.Producer.{Producer}
use Rattle.rtrb.specs.declared.consumer.Consumer.{Consumer}
use Rattle.rtrb.specs.declared.AnyItems.{AnyItems}
use Rattle.sdf_rings.specs.declared.seat.ring_node.RingNode.{RingNode}
use Rattle.sdf_rings.specs.declared.seat.Seat.{Seat}
use Rattle.sdf_rings.specs.declared.rings.meet.RingEnd.{RingEnd}
use Rattle.sdf_rings.specs.Ends.{IsMet}
use Rattle.sdf_rings.specs.Places.{ring_node_at, consumer_at, HasRingNode, HoldsOfRingNode, HoldsOfProducer, OnlyIns}
use Rattle.sdf_rings.specs.Places.{OnlyProducer}
use Rattle.sdf_rings.specs.Places.{ProducerLookedAt, IsRing, HasSynced}
use Rattle.sdf_rings.proofs.Swaps.{ins_changed, out_changed, ends_join, seat_join_same, same_place, ButEnds, in_vec}
use Rattle.sdf_rings.proofs.Swaps.{same_member_of}

pub some : {X : Type 0} (xs : List X) (i : ℕ) → i < length xs → X
some [] i h = absurd (omega arith)
some (x ∷ xs) i h = x

pub some_ring_node : {A T S : Type 0} (seats : List (Seat A T S)) (i k : ℕ) → HasRingNode seats i k → Seat A T S →
    RingNode A T S
some_ring_node seats i k has e = some (slice_index_or seats i e).ring_nodes.items k
    (in_vec (slice_index_or seats i e).ring_nodes k (has e))

module _ {A T S : Type 0} where
  pub synced : (s0 s1 s2 s3 : List (Seat A T S)) (from to : RingEnd) (v0 v1 : Vec (Consumer T Global AnyItems) Global)
      (c c' : Consumer T Global AnyItems)
      → IsRing s0 from to
      → OnlyIns s0 s1 to.seat to.ring_node v0
      → HoldsOfRingNode (λ (x : RingNode A T S). v1 ≡ x.ins) s0 to.seat to.ring_node
      → c ≡ slice_index_or v1.items to.port c
      → OnlyProducer s1 s2 from
      → ConsumerLooked c c'
      → ProducerLookedAt s1 s2 from
      → HoldsOfProducer (λ (y : Producer T Global AnyItems). IsMet y c') s2 from
      → OnlyIns s2 s3 to.seat to.ring_node (with_item v1 to.port c')
      → HasSynced s0 s3 from to
  synced s0 s1 s2 s3 from to v0 v1 c c' ring u1 had is u2 looked plooked met u3 =
      let e0 = some s0 to.seat ring.takes_there.seat_in in
      let d0 = some_ring_node s0 to.seat to.ring_node ring.takes_there.ring_node_in e0 in
      let f0 = some_ring_node s0 from.seat from.ring_node ring.puts_there.ring_node_in e0 in
      let y0 = some (ring_node_at s0 from.seat from.ring_node e0 f0).outs.items from.port
      (in_vec (ring_node_at s0 from.seat from.ring_node e0 f0).outs from.port (ring.puts_there.port_in e0 f0)) in
      let a = ins_changed s0 s1 to.seat to.ring_node v0 u1 in
      let b = out_changed s1 s2 from u2 y0 in
      let z = ins_changed s2 s3 to.seat to.ring_node (with_item v1 to.port c') u3 in
      let but : (j l : ℕ) (e : Seat A T S) (d : RingNode A T S) →
      ButEnds (ring_node_at s0 j l e d) (ring_node_at s3 j l e d) =
      λ j l e d. ends_join _ _ _ (ends_join _ _ _ (a.but j l e d) (b.but j l e d)) (z.but j l e d) in
      let outs : (j l p : ℕ) (e : Seat A T S) (d : RingNode A T S) (y : Producer T Global AnyItems) →
      slice_index_or (ring_node_at s3 j l e d).outs.items p y ≡
      slice_index_or (ring_node_at s2 j l e d).outs.items p y =
      λ j l p e d y. ap (λ (v : Vec (Producer T Global AnyItems) Global). slice_index_or v.items p y)
      (z.outs_is j l e d) in
      let outs1 : (j l p : ℕ) (e : Seat A T S) (d : RingNode A T S) (y : Producer T Global AnyItems) →
      slice_index_or (ring_node_at s1 j l e d).outs.items p y ≡
      slice_index_or (ring_node_at s0 j l e d).outs.items p y =
      λ j l p e d y. ap (λ (v : Vec (Producer T Global AnyItems) Global). slice_index_or v.items p y)
      (a.outs_is j l e d) in
      let port : to.port < length v1.items = in_vec v1 to.port (rw (had e0 d0) (ring.takes_there.port_in e0 d0)) in
      let here : (e : Seat A T S) (d : RingNode A T S) (x : Consumer T Global AnyItems) → consumer_at s3 to e d x ≡ c' =
      λ e d x. ap (λ (v : Vec (Consumer T Global AnyItems) Global). slice_index_or v.items to.port x)
      (z.ins_here e d) ∙ get_or-set_same v1.items to.port c' x port in
      let was : (e : Seat A T S) (d : RingNode A T S) (x : Consumer T Global AnyItems) → consumer_at s0 to e d x ≡ c =
      λ e d x. ap (λ (v : Vec (Consumer T Global AnyItems) Global). slice_index_or v.items to.port x)
      (sym (had e d)) ∙ get_or_default v1.items to.port x c port ∙ sym is in
      record {
        synced_len = (u3 e0 d0).len ∙ (u2 e0 d0 y0).len ∙ (u1 e0 d0).len;
        synced_seats = λ j e. seat_join_same _ _ _ (seat_join_same _ _ _ ((u1 e d0).seats j e) ((u2 e d0 y0).seats j e))
            ((u3 e d0).seats j e);
        synced_ring_nodes = λ j l e d. same_member_of (ring_node_at s0 j l e d) (ring_node_at s3 j l e d) (but j l e d)
            (elim (same_place j l to.seat to.ring_node) as (λ _. vec_len (ring_node_at s3 j l e d).ins ≡
            vec_len (ring_node_at s0 j l e d).ins) [
              | inl h ↦ rw (h.0, h.1, z.ins_here e d) (ap
                  (λ (v : Vec (Consumer T Global AnyItems) Global). vec_len v) (had e d))
              | inr h ↦ ap (λ (v : Vec (Consumer T Global AnyItems) Global). vec_len v)
                  (z.ins_other j l e d h ∙ b.ins_is j l e d ∙ a.ins_other j l e d h)
            ])
            (ap (λ (v : Vec (Producer T Global AnyItems) Global). vec_len v) (z.outs_is j l e d) ∙ b.outs_len j l e d
            ∙ ap (λ (v : Vec (Producer T Global AnyItems) Global). vec_len v) (a.outs_is j l e d));
        synced_consumer = λ e d x. rw (here e d x, was e d x) looked;
        synced_producer = λ e d y. rw (
          outs from.seat from.ring_node from.port e d y,
          ← outs1 from.seat from.ring_node from.port e d y,
        ) (plooked e d y);
        met = λ e d x y. rw (here e d x, outs from.seat from.ring_node from.port e d y) (met e d y);
        other_consumers = λ q e d x apart. elim (same_place q.seat q.ring_node to.seat to.ring_node) as (λ _.
            consumer_at s3 q e
            d x ≡ consumer_at s0 q e d x) [
              | inl h ↦ let ne : q.port ≢ to.port = λ k. apart (h.0, h.1, k) in
                  rw (h.0, h.1) (ap (λ (v : Vec (Consumer T Global AnyItems) Global). slice_index_or v.items q.port x)
                  (z.ins_here e d) ∙ get_or-set_other v1.items to.port q.port c' x ne
                  ∙ ap (λ (v : Vec (Consumer T Global AnyItems) Global). slice_index_or v.items q.port x) (had e d))
              | inr h ↦ ap (λ (v : Vec (Consumer T Global AnyItems) Global). slice_index_or v.items q.port x)
                  (z.ins_other q.seat q.ring_node e d h ∙ b.ins_is q.seat q.ring_node e d
                  ∙ a.ins_other q.seat q.ring_node e d h)
            ];
        other_producers = λ q e d y apart. outs q.seat q.ring_node q.port e d y
            ∙ b.out_other q e d y apart ∙ outs1 q.seat q.ring_node q.port e d y;
      }
