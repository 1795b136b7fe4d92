-- Synchronizing a ring does no firing, and leaves the other rings as they are.
use Rattle.std.proofs.Common.{◌≡◌, ℕ, ◌<◌, ◌≤◌, List, [], length, get_or, ap, ◌∙◌, sym, subst, arith, ◌⊎◌}
use Rattle.std.proofs.Common.{inl, inr}
use Rattle.std.proofs.lemmas.Bool.Decides.{eqb_tells}
use Rattle.std.specs.Global.{Global}
use Rattle.rtrb.specs.declared.producer.Producer.{Producer}
use Rattle.rtrb.specs.declared.consumer.Consumer.{Consumer}
use Rattle.rtrb.specs.declared.AnyItems.{AnyItems}
use Rattle.sdf_actor.specs.Steps.{Steps}
use Rattle.sdf_actor.specs.Nets.{Netlist, wire}
use Rattle.sdf_rings.specs.declared.seat.ring_node.RingNode.{RingNode}
use Rattle.sdf_rings.specs.declared.seat.Seat.{Seat}
use Rattle.sdf_rings.specs.declared.rings.meet.RingEnd.{RingEnd}
use Rattle.sdf_rings.specs.Ends.{Drew, Gave, DrewEach, GaveEach, IsMet}
use Rattle.sdf_rings.specs.Places.{ring_node_at, SameRingNode, HasSynced, consumer_at, producer_at}
use Rattle.sdf_rings.specs.RingNodes.{IsRingNode, HasMoved}
use Rattle.sdf_rings.specs.Seats.{IsSeat, HasWorked, times_between}
use Rattle.sdf_rings.proofs.Looks.{drew_looked, gave_looked, drew_none, gave_none}
use Rattle.sdf_rings.proofs.Looking.{looked_ring_node, looked_moved}
use Rattle.sdf_rings.proofs.Times.{times_none}
use Rattle.sdf_rings.specs.Rests.{producer_of, consumer_of, RingsValue, AreRings, ring_end_of}
use Rattle.sdf_rings.proofs.Placed.{one_node, rings_all}
use Rattle.sdf_rings.proofs.Swaps.{same_place}
use Rattle.std.proofs.Math.Nat.{eq-or-lt_of_le}

same_port : (j l p i k q : ℕ) → ((j ≡ i) × (l ≡ k) × (p ≡ q)) ⊎ ((j ≡ i) × (l ≡ k) × (p ≡ q) → ⊥)
same_port j l p i k q =
    elim (same_place j l i k) as (λ _. ((j ≡ i) × (l ≡ k) × (p ≡ q)) ⊎ ((j ≡ i) × (l ≡ k) × (p ≡ q) → ⊥)) [
      | inl h ↦ elim (eqb_tells p q) as (λ _. ((j ≡ i) × (l ≡ k) × (p ≡ q)) ⊎ ((j ≡ i) × (l ≡ k) × (p ≡ q) → ⊥))
          [ inl m ↦ inl (h.0, h.1, m.1) | inr m ↦ inr (λ b. m.1 b.2) ]
      | inr h ↦ inr (λ b. h (b.0, b.1))
    ]

module _ {A S T : Type 0} where
  -- a ring node except its ends
  ring_node_with : (x y : RingNode A T S) → SameRingNode x y → record x { ins = y.ins; outs = y.outs } ≡ y
  ring_node_with x y t = λ i. record {
    actor = (sym t.actor_same) i;
    state = (sym t.state_same) i;
    ins = y.ins;
    outs = y.outs;
    takes = (sym t.takes_same) i;
    puts = (sym t.puts_same) i;
    taken = (sym t.taken_same) i;
    put = (sym t.put_same) i;
    done = (sym t.done_same) i;
    asked = (sym t.asked_same) i;
  }

  module _ (s : Steps A S T) (n : Netlist A T) {old new : List (Seat A T S)} {from to : RingEnd}
      (t : HasSynced old new from to) where
    drew : (j k : ℕ) (e : Seat A T S) (d : RingNode A T S) →
        DrewEach (ring_node_at old j k e d).ins.items (ring_node_at new j k e d).ins.items (λ _. [])
    drew j k e d p x h = elim (same_port j k p to.seat to.ring_node to.port) as (λ _. Drew
        (get_or (ring_node_at old j k e d).ins.items p x) (get_or (ring_node_at new j k e d).ins.items p x) []) [
          | inl b ↦ rw (b.0, b.1, b.2) (drew_looked (consumer_at old to e d x) (consumer_at new to e d x)
              (t.synced_consumer e d x))
          | inr b ↦ rw (t.other_consumers (record { seat = j; ring_node = k; port = p }) e d x b) (drew_none _)
        ]

    gave : (j k : ℕ) (e : Seat A T S) (d : RingNode A T S) →
        GaveEach (ring_node_at old j k e d).outs.items (ring_node_at new j k e d).outs.items (λ _. [])
    gave j k e d p y h = elim (same_port j k p from.seat from.ring_node from.port) as (λ _. Gave
        (get_or (ring_node_at old j k e d).outs.items p y) (get_or (ring_node_at new j k e d).outs.items p y) []) [
          | inl b ↦ rw (b.0, b.1, b.2) (gave_looked (producer_at old from e d y) (producer_at new from e d y)
              (t.synced_producer e d y))
          | inr b ↦ rw (t.other_producers (record { seat = j; ring_node = k; port = p }) e d y b) (gave_none _)
        ]

    synced_ring_node : (inputs : List (List T)) (j k : ℕ) (e : Seat A T S) (d : RingNode A T S) →
        IsRingNode s n inputs (ring_node_at old j k e d) → IsRingNode s n inputs (ring_node_at new j k e d)
    synced_ring_node inputs j k e d st =
        let x = ring_node_at old j k e d in
        let y = ring_node_at new j k e d in
        let same = t.synced_ring_nodes j k e d in
        subst (IsRingNode s n inputs) (ring_node_with x y same)
        (looked_ring_node x y.ins y.outs (drew j k e d) (gave j k e d) same.ins_len_same
        same.outs_len_same st)

    synced_moved : (j k : ℕ) (e : Seat A T S) (d : RingNode A T S) →
        HasMoved s n (ring_node_at old j k e d) (ring_node_at new j k e d)
    synced_moved j k e d =
        let x = ring_node_at old j k e d in
        let y = ring_node_at new j k e d in
        let same = t.synced_ring_nodes j k e d in
        subst (HasMoved s n x) (ring_node_with x y same)
        (looked_moved x y.ins y.outs (drew j k e d) (gave j k e d) same.ins_len_same same.outs_len_same)

    pub synced_worked : (j : ℕ) (e : Seat A T S) → (get_or old j e).next ≤ length (get_or old j e).left →
        HasWorked s n (get_or old j e) (get_or new j e)
    synced_worked j e fits =
        let same = t.synced_seats j e in
        let x = get_or old j e in
        let none : (k : ℕ) → times_between k x.left x.next (get_or new j e).next ≡ 0 =
        λ k. ap (times_between k x.left x.next) same.next_same ∙ times_none k x.left x.next in
        record {
          processor_kept = same.processor_same;
          left_kept = same.left_same;
          next_grows = let z = same.next_same in omega arith;
          next_fits = let z = same.next_same in omega arith;
          ring_nodes_kept = same.ring_nodes_same;
          moved = λ k d h. synced_moved j k e d;
          dones = λ k d h. let z = (t.synced_ring_nodes j k e d).done_same in let u = none k in omega arith;
        }

    pub synced_seat : (inputs : List (List T)) (j : ℕ) (e : Seat A T S) → IsSeat s n inputs (get_or old j e) →
        IsSeat s n inputs (get_or new j e)
    synced_seat inputs j e ok =
        let same = t.synced_seats j e in
        let len = ap length same.left_same in
        record {
          next_fits = let z = same.next_same in let h = ok.next_fits in omega arith;
          names = λ i h. rw same.left_same (let b = ok.names i (omega arith) in let z =
              same.ring_nodes_same in omega arith);
          each = λ k d h. synced_ring_node inputs j k e d (ok.each k d (let z = same.ring_nodes_same in omega arith));
          counts = λ k d h. rw (
            same.left_same,
            same.next_same,
            (t.synced_ring_nodes j k e d).done_same,
            (t.synced_ring_nodes j k e d).asked_same,
          ) (ok.counts k d (let z = same.ring_nodes_same in omega arith));
        }

  module _ {s : Steps A S T} {hand : RingsValue A S T} (r : AreRings s hand) {m : ℕ} (known : m < length hand.net.wires)
      {new : List (Seat A T S)} (t : HasSynced hand.seats new (ring_end_of hand.places (wire hand.net m).from)
      (ring_end_of hand.places (wire hand.net m).to)) where
    open hand use {net as n, inputs, seats, places}

    pub rings_synced : AreRings s (record hand { seats = new })
    rings_synced = rings_all r new t.synced_len (λ j e h. synced_seat s n t inputs j e (r.each j e h))
        (λ j e h. synced_worked s n t j e (r.each j e h).next_fits)

    -- the ring is synchronized, and those before it stay so
    pub met_synced : (k : ℕ) (e : Seat A T S) (d : RingNode A T S) (x : Consumer T Global AnyItems)
        (y : Producer T Global AnyItems) → k ≤ m →
        (k < m → IsMet (producer_of n seats places e d y k) (consumer_of n seats places e d x k)) →
        IsMet (producer_of n new places e d y k) (consumer_of n new places e d x k)
    met_synced k e d x y le before = elim (eq-or-lt_of_le le) as (λ _. IsMet (producer_of n new places e d y k)
        (consumer_of n new places e d x k)) [
          | inl same ↦ rw same (t.met e d x y)
          | inr less ↦
              let lk : k < length n.wires = omega arith in
              let puts = t.other_producers (ring_end_of places (wire n k).from) e d y (λ z.
              let node = one_node r.placed e d
              (r.is_net.from_in k lk).0
              (r.is_net.from_in m known).0 z.0 z.1 in
              let one = r.is_net.from_once k m lk known (λ i. (node i, z.2 i)) in omega arith) in
              let takes = t.other_consumers (ring_end_of places (wire n k).to) e d x (λ z.
              let node = one_node r.placed e d (r.is_net.to_in k lk).0
              (r.is_net.to_in m known).0 z.0 z.1 in
              let one = r.is_net.to_once k m lk known (λ i. (node i, z.2 i)) in omega arith) in
              rw (puts, takes) (before less)
        ]
