-- Seats that are begun, all in one hand.
use Rattle.std.proofs.Common.{◌≡◌, ℕ, ◌+◌, ◌-◌, ◌<◌, List, length, map, get_or, Option, refl, sym, ap, ◌∙◌, subst}
use Rattle.std.proofs.Common.{arith, vec_len}
use Rattle.std.specs.Global.{Global}
use Rattle.std.specs.declared.vec.Vec.{Vec}
use Rattle.std.proofs.lemmas.List.{get_or-map, take_all, length-map}
use Rattle.std.proofs.lemmas.Option.{same_Some}
use Rattle.rtrb.specs.Ring.{producer_capacity}
use Rattle.rtrb.specs.declared.producer.Producer.{Producer}
use Rattle.rtrb.specs.declared.consumer.Consumer.{Consumer}
use Rattle.rtrb.specs.declared.AnyItems.{AnyItems}
use Rattle.sdf_graph.specs.Sequences.{times, IsAdmissible, FitsIn}
use Rattle.sdf_actor.specs.Steps.{Steps}
use Rattle.sdf_actor.specs.Nets.{Netlist, wire, wiring, IsNet}
use Rattle.sdf_rings.specs.declared.seat.ring_node.RingNode.{RingNode}
use Rattle.sdf_rings.specs.declared.seat.Seat.{Seat}
use Rattle.sdf_rings.specs.Ends.{IsMet}
use Rattle.sdf_rings.specs.Seats.{IsSeat, times_between}
use Rattle.sdf_rings.specs.RingNodes.{IsRingNode}
use Rattle.sdf_rings.specs.Rests.{ring_node_of, producer_of, consumer_of, IsPlaced, HaveMet, AreRings}
use Rattle.sdf_rings.specs.Asks.{dealt, IsRoomOf, IsPlanned}
use Rattle.sdf_rings.specs.Openings.{HasRing, HaveRings}
use Rattle.sdf_rings.specs.Begun.{place, HasBegun, IsBegun, HaveBegun}
use Rattle.sdf_rings.proofs.Dealt.{part_times, part_all, times_map}

in_vec : {X Z : Type 0} (v : Vec X Z) (i : ℕ) → i < length v.items → i < vec_len v
in_vec v i h = omega arith

in_items : {X Z : Type 0} (v : Vec X Z) (i : ℕ) → i < vec_len v → i < length v.items
in_items v i h = omega arith

-- all of a list
times_all : (xs : List ℕ) (from k : ℕ) → from ≡ 0 → times_between k xs from (length xs) ≡ times xs k
times_all xs from k none =
    ap (λ m. times_between k xs m (length xs)) none
    ∙ ap (λ w. times w k) (take_all (length xs - 0) xs (omega arith))

-- each node stands on one of these seats, which are begun over open rings
pub record AreLaidOut {A S T : Type 0} (s : Steps A S T) (n : Netlist A T) (inputs : List (List T)) (asked cap : ℕ → ℕ)
    (order : List ℕ) (seats : List (Seat A T S)) (places : List (ℕ × ℕ)) : Type 0 where
  pub good : IsNet s n
  pub ps : List (Option (Producer T Global AnyItems))
  pub xs : List (Option (Consumer T Global AnyItems))
  pub rings : HaveRings s n cap ps xs
  pub all : length places ≡ length n.nodes
  pub known : (j : ℕ) → j < length order → get_or order j 0 < length n.nodes
  pub counts : (a : ℕ) → a < length n.nodes → times order a ≡ asked a
  pub seated : (a : ℕ) → a < length n.nodes → (place places a).0 < length seats
  pub each : HaveBegun s n inputs asked ps xs places order (length seats) seats

module _ {A S T : Type 0} {s : Steps A S T} {n : Netlist A T} {inputs : List (List T)} {asked cap : ℕ → ℕ}
    {order : List ℕ} {seats : List (Seat A T S)} {places : List (ℕ × ℕ)}
    (laid : AreLaidOut s n inputs asked cap order seats places) where
  -- the ring node of a node
  here : (a : ℕ) (e : Seat A T S) (d : RingNode A T S) → a < length n.nodes →
      HasBegun s n inputs asked laid.ps laid.xs a (ring_node_of n seats places e d a)
  here a e d l = (laid.each (place places a).0 e (laid.seated a l)).ring_nodes_are.here a d l refl

  pub placed : IsPlaced n seats places
  placed = record {
    seat_in = laid.seated;
    ring_node_in = λ a e l. in_vec (get_or seats (place places a).0 e).ring_nodes (place places a).1
        ((laid.each (place places a).0 e (laid.seated a l)).ring_nodes_are.known a l refl);
    is = λ a e d l. (here a e d l).actor_is;
  }

  -- one place is one node's
  one : (a b : ℕ) (e : Seat A T S) (d : RingNode A T S) → a < length n.nodes → b < length n.nodes →
      (place places a).0 ≡ (place places b).0 → (place places a).1 ≡ (place places b).1 → a ≡ b
  one a b e d la lb p q =
      let same : ring_node_of n seats places e d a ≡ ring_node_of n seats places e d b =
      λ k. get_or (get_or seats (p k) e).ring_nodes.items (q k) d in
      sym (here a e d la).actor_is ∙ (ap (λ (z : RingNode A T S). z.actor) same ∙ (here b e d lb).actor_is)

  abbrev home : ℕ → ℕ
  home a = (place places a).0

  abbrev ring_node : ℕ → ℕ
  ring_node a = (place places a).1

  -- the firings of a seat are those of nodes that stand there
  dealt_here : (i j : ℕ) → j < length (dealt places order i) →
      (get_or (dealt places order i) j 0 < length n.nodes) × (home (get_or (dealt places order i) j 0) ≡ i)
  dealt_here i = part_all home order i (λ a. a < length n.nodes) laid.known

  -- how often the seat's list names the ring node of a node
  named : (a : ℕ) (e : Seat A T S) (d : RingNode A T S) → a < length n.nodes →
      times (map ring_node (dealt places order (home a))) (ring_node a) ≡ asked a
  named a e d l =
      times_map ring_node a (dealt places order (home a))
      (λ j h same. let is = dealt_here (home a) j h in
      one (get_or (dealt places order (home a)) j 0) a e d is.0 l is.1 same) ∙
      (part_times home order (home a) a refl ∙ laid.counts a l)

  module _ (i : ℕ) (e : Seat A T S) (inside : i < length seats) where
    abbrev x : Seat A T S
    x = get_or seats i e

    begun : IsBegun s n inputs asked laid.ps laid.xs places order i x
    begun = laid.each i e inside

    -- a ring node is a node's
    at_ring_node : (k : ℕ) (d : RingNode A T S) → k < length x.ring_nodes.items →
        (a : ℕ) × (a < length n.nodes) × (home a ≡ i) × (ring_node a ≡ k)
    at_ring_node k d h = begun.ring_nodes_are.only k h

    counted : (k : ℕ) (d : RingNode A T S) → k < length x.ring_nodes.items →
        (get_or x.ring_nodes.items k d).done + times_between k x.left x.next (length x.left) ≡
        (get_or x.ring_nodes.items k d).asked
    counted k d h =
        let o = at_ring_node k d h in
        let a : ℕ = o.0 in
        let b : HasBegun s n inputs asked laid.ps laid.xs a (get_or x.ring_nodes.items k d) =
        subst (λ m. HasBegun s n inputs asked laid.ps laid.xs a (get_or x.ring_nodes.items m d)) o.3
        (begun.ring_nodes_are.here a d o.1 o.2) in
        let whole : times_between k x.left x.next (length x.left) ≡ times x.left k =
        times_all x.left x.next k begun.first in
        let list : times x.left k ≡ times (map ring_node (dealt places order i)) k =
        ap (λ w. times w k) begun.left_is in
        let turned : times (map ring_node (dealt places order i)) k ≡
        times (map ring_node (dealt places order (home a))) (ring_node a) =
        λ m. times (map ring_node (dealt places order (sym o.2 m))) (sym o.3 m) in
        let is = named a e d o.1 in
        let none = b.undone in
        let want = b.asked_is in
        omega (arith, whole, list, turned, is, none, want)

    names : (j : ℕ) → j < length x.left → get_or x.left j 0 < vec_len x.ring_nodes
    names j h =
        let firings : List ℕ = dealt places order i in
        let long = ap (λ (w : List ℕ). length w) begun.left_is in
        let many = length-map firings ring_node in
        let l : j < length firings = omega (arith, h, long, many) in
        let is = dealt_here i j l in
        let at : get_or x.left j 0 ≡ ring_node (get_or firings j 0) =
        ap (λ w. get_or w j 0) begun.left_is ∙ get_or-map ring_node firings j 0 0 l in
        in_vec x.ring_nodes (get_or x.left j 0) (subst (λ k. k < length x.ring_nodes.items) (sym at)
        (begun.ring_nodes_are.known (get_or firings j 0) is.0 is.1))

    pub is_seat : IsSeat s n inputs x
    is_seat = record {
      next_fits = omega (arith, begun.first);
      names = names;
      each = λ k d h.
          let o = at_ring_node k d (in_items x.ring_nodes k h) in
          subst (λ m. IsRingNode s n inputs (get_or x.ring_nodes.items m d)) o.3
          (begun.ring_nodes_are.here o.0 d o.1 o.2).is;
      counts = λ k d h. counted k d (in_items x.ring_nodes k h);
    }

  -- the ends of a channel are those that were opened
  module _ (c : ℕ) (e : Seat A T S) (d : RingNode A T S) (v : Consumer T Global AnyItems)
      (w : Producer T Global AnyItems)
      (l : c < length n.wires) where
    ring : HasRing s n cap c laid.ps laid.xs
    ring = laid.rings.each c l

    producer_is : producer_of n seats places e d w c ≡ ring.producer
    producer_is = same_Some (producer_of n seats places e d w c) ring.producer
        (sym ((here (wire n c).from.0 e d (laid.good.from_in c l).0).outs_are c w l refl) ∙ ring.puts)

    consumer_is : consumer_of n seats places e d v c ≡ ring.consumer
    consumer_is = same_Some (consumer_of n seats places e d v c) ring.consumer
        (sym ((here (wire n c).to.0 e d (laid.good.to_in c l).0).ins_are c v l refl) ∙ ring.takes)

    is_met : IsMet (producer_of n seats places e d w c) (consumer_of n seats places e d v c)
    is_met = subst (λ p. IsMet p (consumer_of n seats places e d v c)) (sym producer_is)
        (subst (IsMet ring.producer) (sym consumer_is) ring.opened.met)

  pub have_met : HaveMet n seats places
  have_met c e d v w l = is_met c e d v w l

  pub are_rings : AreRings s (record { net = n; inputs = inputs; seats = seats; places = places })
  are_rings = record {
    is_net = laid.good;
    each = is_seat;
    placed = placed;
    paired = record { all = laid.all; pair = λ c e d v w l. (is_met c e d v w l).pair };
  }

  pub is_planned : IsAdmissible (wiring s n).rates order → FitsIn (wiring s n).rates cap order →
      IsPlanned s n seats places order cap
  is_planned admissible fits = record {
    admissible = admissible;
    fits = fits;
    asks = record {
      lists = λ i e h. (laid.each i e h).left_is;
      asked = λ a e d l. (here a e d l).asked_is ∙ sym (laid.counts a l);
    };
    capacities = λ c e d w l.
        let r = laid.rings.each c l in
        let same = same_Some (producer_of n seats places e d w c) r.producer
        (sym ((here (wire n c).from.0 e d (laid.good.from_in c l).0).outs_are c w l refl) ∙ r.puts) in
        subst (λ p. IsRoomOf (wiring s n).rates cap c (producer_capacity p)) (sym same) r.room;
  }

  pub undone : (a : ℕ) (e : Seat A T S) (d : RingNode A T S) → a < length n.nodes →
      (ring_node_of n seats places e d a).done ≡ 0
  undone a e d l = (here a e d l).undone
