-- One ring node is changed.
use Rattle.std.proofs.Common.{◌≡◌, ◌≢◌, ℕ, ◌<◌, List, length, slice_index_or, slice_set, get_or-set_other}
use Rattle.std.proofs.Common.{get_or-set_same, refl, ◌∙◌, ap, sym, subst, inl, inr}
use Rattle.std.proofs.lemmas.List.{get_or_default}
use Rattle.std.proofs.lemmas.Bool.Decides.{eqb_tells}
use Rattle.std.proofs.Math.ListN.{length-set}
use Rattle.std.specs.Vec.{with_item}
use Rattle.std.specs.Global.{Global}
use Rattle.rtrb.specs.Ring.{ProducerLooked}
use Rattle.rtrb.specs.declared.producer.Producer.{Producer}
use Rattle.rtrb.specs.declared.AnyItems.{AnyItems}
use Rattle.sdf_rings.specs.declared.seat.ring_node.RingNode.{RingNode}
use Rattle.sdf_rings.specs.declared.seat.Seat.{Seat}
use Rattle.sdf_rings.specs.Places.{ring_node_at, HasRingNode, SameSeat, IsUpdated, ProducerLookedAt}
use Rattle.sdf_rings.proofs.Looking.{vec_in}

-- what is at a place: the seat f, and its ring node r
pub record AtRingNode {A T S : Type 0} (old : List (Seat A T S)) (i k : ℕ) (f : Seat A T S)
    (r : RingNode A T S) : Type 0 where
  pub inside : i < length old
  pub seat_is : f ≡ slice_index_or old i f
  pub below : k < length f.ring_nodes.items
  pub ring_node_is : r ≡ slice_index_or f.ring_nodes.items k r

pub at_ring_node : {A T S : Type 0} (old : List (Seat A T S)) (i k : ℕ) (e : Seat A T S) (r : RingNode A T S) →
    i < length old → HasRingNode old i k → r ≡ slice_index_or (slice_index_or old i e).ring_nodes.items k r →
    AtRingNode old i k (slice_index_or old i e) r
at_ring_node old i k e r inside has is = record {
  inside = inside;
  seat_is = get_or_default old i e (slice_index_or old i e) inside;
  below = vec_in (slice_index_or old i e).ring_nodes k (has e);
  ring_node_is = is;
}

pub update_as : {A T S : Type 0} (old new : List (Seat A T S)) (i k : ℕ) (x y : RingNode A T S) → x ≡ y →
    IsUpdated old new i k x → IsUpdated old new i k y
update_as {A} {T} {S} old new i k x y e u = subst (λ (z : RingNode A T S). IsUpdated old new i k z) e u

same_seat : {A T S : Type 0} (s : Seat A T S) → SameSeat s s
same_seat s = record { processor_same = refl; left_same = refl; next_same = refl; ring_nodes_same = refl }

module _ {A T S : Type 0} {old : List (Seat A T S)} {i k : ℕ} {f : Seat A T S} {r : RingNode A T S}
    (x : AtRingNode old i k f r) where
  seat_was : (e : Seat A T S) → slice_index_or old i e ≡ f
  seat_was e = get_or_default old i e f x.inside ∙ sym x.seat_is

  pub ring_node_was : (e : Seat A T S) (d : RingNode A T S) → ring_node_at old i k e d ≡ r
  ring_node_was e d = ap (λ (s : Seat A T S). slice_index_or s.ring_nodes.items k d) (seat_was e)
      ∙ get_or_default f.ring_nodes.items k d r x.below ∙ sym x.ring_node_is

  module _ (y : RingNode A T S) where
    abbrev f' : Seat A T S
    f' = record f { ring_nodes = with_item f.ring_nodes k y }

    abbrev new : List (Seat A T S)
    new = slice_set old i f'

    seat_now : (e : Seat A T S) → slice_index_or new i e ≡ f'
    seat_now e = get_or-set_same old i f' e x.inside

    pub updated : IsUpdated old new i k y
    updated = record {
      len = length-set old i f';
      seats = λ j e. elim (eqb_tells j i) as (λ _. SameSeat (slice_index_or old j e) (slice_index_or new j e)) [
        | inl h ↦ rw (h.1, seat_was e, seat_now e) (record {
          processor_same = refl;
          left_same = refl;
          next_same = refl;
          ring_nodes_same = refl;
        })
        | inr h ↦ rw (get_or-set_other old i j f' e h.1) (same_seat (slice_index_or old j e))
      ];
      here = λ e d. rw (seat_now e) (get_or-set_same f.ring_nodes.items k y d x.below);
      others = λ j l e d apart. elim (eqb_tells j i) as (λ _. ring_node_at new j l e d ≡ ring_node_at old j l e d) [
        | inl h ↦ let ne : l ≢ k = λ z. apart (h.1, z) in
            rw (h.1, seat_was e, seat_now e) (get_or-set_other f.ring_nodes.items k l y d ne)
        | inr h ↦ rw (get_or-set_other old i j f' e h.1) refl
      ];
    }

  -- a producer of the ring node is synchronized, and put back
  pub looked_at : (port : ℕ) (q p : Producer T Global AnyItems) → port < length r.outs.items →
      q ≡ slice_index_or r.outs.items port q → ProducerLooked q p → ProducerLookedAt old
      (slice_set old i (record f {
        ring_nodes = with_item f.ring_nodes k
            (record r { outs = with_item r.outs port p });
      }))
      (record { seat = i; ring_node = k; port = port })
  looked_at port q p there q_is looked e d y =
      let z : RingNode A T S = record r { outs = with_item r.outs port p } in
      let new : List (Seat A T S) = slice_set old i (record f { ring_nodes = with_item f.ring_nodes k z }) in
      let was : slice_index_or (ring_node_at old i k e d).outs.items port y ≡ q =
      ap (λ (s : RingNode A T S). slice_index_or s.outs.items port y) (ring_node_was e d)
      ∙ (get_or_default r.outs.items port y q there ∙ sym q_is) in
      let then : slice_index_or (ring_node_at new i k e d).outs.items port y ≡ p =
      ap (λ (s : RingNode A T S). slice_index_or s.outs.items port y) ((updated z).here e d)
      ∙ get_or-set_same r.outs.items port p y there in
      subst (λ v. ProducerLooked (slice_index_or (ring_node_at old i k e d).outs.items port y) v) (sym then)
      (subst (λ v. ProducerLooked v p) (sym was) looked)
