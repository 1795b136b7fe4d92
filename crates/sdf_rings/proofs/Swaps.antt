-- Changes of the ends of one ring node.
use Rattle.std.proofs.Common.{◌≡◌, ◌≢◌, ℕ, ◌<◌, List, length, Vec, vec_len, slice_index_or, get_or-set_other, refl}
use Rattle.std.proofs.Common.{arith, ◌∙◌, ap, ◌⊎◌, inl, inr}
use Rattle.std.proofs.lemmas.Bool.Decides.{eqb_tells}
use Rattle.std.specs.Global.{Global}
use Rattle.rtrb.specs.declared.producer.Producer.{Producer}
use Rattle.rtrb.specs.declared.consumer.Consumer.{Consumer}
use Rattle.rtrb.specs.declared.AnyItems.{AnyItems}
use Rattle.sdf_rings.specs.declared.seat.ring_node.RingNode.{RingNode}
use Rattle.sdf_rings.specs.declared.seat.Seat.{Seat}
use Rattle.sdf_rings.specs.declared.rings.meet.RingEnd.{RingEnd}
use Rattle.sdf_rings.specs.Places.{ring_node_at, producer_at, SameSeat, SameRingNode, IsUpdated, OnlyIns, OnlyProducer}

pub same_place : (j l i k : ℕ) → ((j ≡ i) × (l ≡ k)) ⊎ ((j ≡ i) × (l ≡ k) → ⊥)
same_place j l i k =
    elim (eqb_tells j i) as (λ _. ((j ≡ i) × (l ≡ k)) ⊎ ((j ≡ i) × (l ≡ k) → ⊥)) [
      | inl h ↦ elim (eqb_tells l k) as (λ _. ((j ≡ i) × (l ≡ k)) ⊎ ((j ≡ i) × (l ≡ k) → ⊥))
          [ inl m ↦ inl (h.1, m.1) | inr m ↦ inr (λ b. m.1 b.1) ]
      | inr h ↦ inr (λ b. h.1 b.0)
    ]

pub in_vec : {X Z : Type 0} (v : Vec X Z) (i : ℕ) → i < vec_len v → i < length v.items
in_vec v i h = omega arith

pub record ButEnds {A T S : Type 0} (s t : RingNode A T S) : Type 0 where
  pub actor_is : t.actor ≡ s.actor
  pub state_is : t.state ≡ s.state
  pub takes_is : t.takes ≡ s.takes
  pub puts_is : t.puts ≡ s.puts
  pub taken_is : t.taken ≡ s.taken
  pub put_is : t.put ≡ s.put
  pub done_is : t.done ≡ s.done
  pub asked_is : t.asked ≡ s.asked

pub same_member_of : {A T S : Type 0} (s t : RingNode A T S) → ButEnds s t → vec_len t.ins ≡ vec_len s.ins →
    vec_len t.outs ≡ vec_len s.outs → SameRingNode s t
same_member_of s t k ins outs = record {
  actor_same = k.actor_is;
  state_same = k.state_is;
  takes_same = k.takes_is;
  puts_same = k.puts_is;
  taken_same = k.taken_is;
  put_same = k.put_is;
  done_same = k.done_is;
  asked_same = k.asked_is;
  ins_len_same = ins;
  outs_len_same = outs;
}

module _ {A T S : Type 0} where
  pub ends_join : (s t u : RingNode A T S) → ButEnds s t → ButEnds t u → ButEnds s u
  ends_join s t u p q = record {
    actor_is = q.actor_is ∙ p.actor_is;
    state_is = q.state_is ∙ p.state_is;
    takes_is = q.takes_is ∙ p.takes_is;
    puts_is = q.puts_is ∙ p.puts_is;
    taken_is = q.taken_is ∙ p.taken_is;
    put_is = q.put_is ∙ p.put_is;
    done_is = q.done_is ∙ p.done_is;
    asked_is = q.asked_is ∙ p.asked_is;
  }

  pub seat_join_same : (s t u : Seat A T S) → SameSeat s t → SameSeat t u → SameSeat s u
  seat_join_same s t u p q = record {
    processor_same = q.processor_same ∙ p.processor_same;
    left_same = q.left_same ∙ p.left_same;
    next_same = q.next_same ∙ p.next_same;
    ring_nodes_same = q.ring_nodes_same ∙ p.ring_nodes_same;
  }

  ends_same : (x : RingNode A T S) → ButEnds x x
  ends_same x = record {
    actor_is = refl;
    state_is = refl;
    takes_is = refl;
    puts_is = refl;
    taken_is = refl;
    put_is = refl;
    done_is = refl;
    asked_is = refl;
  }

  ends_other : (x : RingNode A T S) (ins : Vec (Consumer T Global AnyItems) Global)
      (outs : Vec (Producer T Global AnyItems) Global) → ButEnds x (record x { ins = ins; outs = outs })
  ends_other x ins outs = record {
    actor_is = refl;
    state_is = refl;
    takes_is = refl;
    puts_is = refl;
    taken_is = refl;
    put_is = refl;
    done_is = refl;
    asked_is = refl;
  }

  -- where one ring node is changed, what ties it to what it was, and each ring node to itself, ties each to what it was
  each_ring_node : (R : RingNode A T S → RingNode A T S → Type 0) → ((x : RingNode A T S) → R x x) →
      (old new : List (Seat A T S))
      (i k : ℕ) (x : RingNode A T S) (e : Seat A T S) (d : RingNode A T S) → R (ring_node_at old i k e d) x →
      IsUpdated old new i k x → (j l : ℕ) → R (ring_node_at old j l e d) (ring_node_at new j l e d)
  each_ring_node R same old new i k x e d here u j l =
      elim (same_place j l i k) as (λ _. R (ring_node_at old j l e d) (ring_node_at new j l e d)) [
        | inl h ↦ rw (h.0, h.1, u.here e d) here
        | inr h ↦ rw (u.others j l e d h) (same (ring_node_at old j l e d))
      ]

  -- other consumers came to a ring node
  pub record InsChanged (old new : List (Seat A T S)) (i k : ℕ)
      (v : Vec (Consumer T Global AnyItems) Global) : Type 0 where
    pub but : (j l : ℕ) (e : Seat A T S) (d : RingNode A T S) →
        ButEnds (ring_node_at old j l e d) (ring_node_at new j l e d)
    pub outs_is : (j l : ℕ) (e : Seat A T S) (d : RingNode A T S) →
        (ring_node_at new j l e d).outs ≡ (ring_node_at old j l e d).outs
    pub ins_here : (e : Seat A T S) (d : RingNode A T S) → (ring_node_at new i k e d).ins ≡ v
    pub ins_other : (j l : ℕ) (e : Seat A T S) (d : RingNode A T S) → ((j ≡ i) × (l ≡ k) → ⊥) →
        (ring_node_at new j l e d).ins ≡ (ring_node_at old j l e d).ins

  pub ins_changed : (old new : List (Seat A T S)) (i k : ℕ) (v : Vec (Consumer T Global AnyItems) Global) →
      OnlyIns old new i k v → InsChanged old new i k v
  ins_changed old new i k v u = record {
    but = λ j l e d. each_ring_node (λ x y. ButEnds x y) ends_same old new i k _ e d
        (ends_other (ring_node_at old i k e d) v (ring_node_at old i k e d).outs) (u e d) j l;
    outs_is = λ j l e d. each_ring_node (λ x y. y.outs ≡ x.outs) (λ x. refl) old new i k _ e d refl (u e d) j l;
    ins_here = λ e d. rw ((u e d).here e d) refl;
    ins_other = λ j l e d h. rw ((u e d).others j l e d h) refl;
  }

  -- another producer came to a place
  pub record OutChanged (old new : List (Seat A T S)) (at : RingEnd) : Type 0 where
    pub but : (j l : ℕ) (e : Seat A T S) (d : RingNode A T S) →
        ButEnds (ring_node_at old j l e d) (ring_node_at new j l e d)
    pub ins_is : (j l : ℕ) (e : Seat A T S) (d : RingNode A T S) →
        (ring_node_at new j l e d).ins ≡ (ring_node_at old j l e d).ins
    pub outs_len : (j l : ℕ) (e : Seat A T S) (d : RingNode A T S) →
        vec_len (ring_node_at new j l e d).outs ≡ vec_len (ring_node_at old j l e d).outs
    pub out_other : (q : RingEnd) (e : Seat A T S) (d : RingNode A T S) (y : Producer T Global AnyItems) →
        ((q.seat ≡ at.seat) × (q.ring_node ≡ at.ring_node) × (q.port ≡ at.port) → ⊥) →
        producer_at new q e d y ≡ producer_at old q e d y

  pub out_changed : (old new : List (Seat A T S)) (at : RingEnd) → OnlyProducer old new at →
      Producer T Global AnyItems →
      OutChanged old new at
  out_changed old new at u y0 = record {
    but = λ j l e d. each_ring_node (λ x y. ButEnds x y) ends_same old new at.seat at.ring_node _ e d
        (ends_other (ring_node_at old at.seat at.ring_node e d) (ring_node_at old at.seat at.ring_node e d).ins _)
        (u e d y0) j l;
    ins_is = λ j l e d. each_ring_node (λ x y. y.ins ≡ x.ins) (λ x. refl) old new at.seat at.ring_node _ e d refl
        (u e d y0) j l;
    outs_len = λ j l e d. each_ring_node (λ x y. vec_len y.outs ≡ vec_len x.outs) (λ x. refl) old new at.seat
        at.ring_node _ e d
        refl (u e d y0) j l;
    out_other = λ q e d y apart. elim (same_place q.seat q.ring_node at.seat at.ring_node) as (λ _.
        producer_at new q e d y ≡
        producer_at old q e d y) [
          | inl h ↦ let ne : q.port ≢ at.port = λ z. apart (h.0, h.1, z) in
              rw (h.0, h.1) (ap (λ (s : RingNode A T S). slice_index_or s.outs.items q.port y) ((u e d y0).here e d)
              ∙ get_or-set_other (ring_node_at old at.seat at.ring_node e d).outs.items at.port q.port
              (producer_at new at e d y0) y ne)
          | inr h ↦ rw ((u e d y0).others q.seat q.ring_node e d h) refl
        ];
  }
