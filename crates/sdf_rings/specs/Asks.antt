-- A firing sequence dealt out to seats, and the room that rings have for it.
use Rattle.std.specs.Prelude.{ℕ, ◌≡◌, ◌≢◌, ◌+◌, ◌-◌, ◌≤◌, ◌<◌, ◌==◌, List, length, map, filter, slice_index_or}
use Rattle.std.specs.Global.{Global}
use Rattle.rtrb.specs.Ring.{producer_capacity}
use Rattle.rtrb.specs.declared.producer.Producer.{Producer}
use Rattle.rtrb.specs.declared.AnyItems.{AnyItems}
use Rattle.sdf_graph.specs.Rates.{Rates}
use Rattle.sdf_graph.specs.Sequences.{times, IsAdmissible, FitsIn}
use Rattle.sdf_actor.specs.Steps.{Steps}
use Rattle.sdf_actor.specs.Nets.{Netlist, wiring}
use Rattle.sdf_rings.specs.declared.seat.ring_node.RingNode.{RingNode}
use Rattle.sdf_rings.specs.declared.seat.Seat.{Seat}
use Rattle.sdf_rings.specs.Seats.{CanFireFirst}
use Rattle.sdf_rings.specs.Rests.{ring_node_of, producer_of}

-- the firings of a sequence whose actor is on seat i, in order
abbrev pub dealt : List (ℕ × ℕ) → List ℕ → ℕ → List ℕ
dealt places order i = filter (λ a. (slice_index_or places a (0, 0)).0 == i) order

-- m is the greatest number of samples that a firing puts on channel c
pub record IsGreatestPut (r : Rates) (c m : ℕ) : Type 0 where
  pub above : (k : ℕ) → r.produced c (k + 1) - r.produced c k ≤ m
  pub reached : (k : ℕ) × (r.produced c (k + 1) - r.produced c k ≡ m)

-- the room in the ring of channel c, in samples: the capacity of the channel. From an actor to itself there is room for
-- one more block, the greatest, since an actor looks for room before it has taken
pub record IsRoomOf (r : Rates) (cap : ℕ → ℕ) (c room : ℕ) : Type 0 where
  pub between_two : r.source c ≢ r.target c → room ≡ cap c
  pub own : r.source c ≡ r.target c → (m : ℕ) × IsGreatestPut r c m × (room ≡ cap c + m)

module _ {A S T : Type 0} (n : Netlist A T) (seats : List (Seat A T S)) (places : List (ℕ × ℕ)) where
  -- each seat's list names, by ring node, its firings of the sequence, and no other firing is asked
  pub record AsksFor (order : List ℕ) : Type 0 where
    pub lists : (i : ℕ) (e : Seat A T S) → i < length seats →
        (slice_index_or seats i e).left ≡ map (λ a. (slice_index_or places a (0, 0)).1) (dealt places order i)
    pub asked : (a : ℕ) (e : Seat A T S) (d : RingNode A T S) → a < length n.nodes →
        (ring_node_of n seats places e d a).asked ≡ times order a

  -- each ring has the room that belongs to the capacity of its channel
  abbrev pub HaveCapacities : Steps A S T → (ℕ → ℕ) → Type 0
  HaveCapacities s cap =
      (c : ℕ) (e : Seat A T S) (d : RingNode A T S) (y : Producer T Global AnyItems) → c < length n.wires →
      IsRoomOf (wiring s n).rates cap c (producer_capacity (producer_of n seats places e d y c))

-- what is asked is an admissible sequence that keeps within the rings
pub record IsPlanned {A S T : Type 0} (s : Steps A S T) (n : Netlist A T) (seats : List (Seat A T S))
    (places : List (ℕ × ℕ)) (order : List ℕ) (cap : ℕ → ℕ) : Type 0 where
  pub admissible : IsAdmissible (wiring s n).rates order
  pub fits : FitsIn (wiring s n).rates cap order
  pub asks : AsksFor n seats places order
  pub capacities : HaveCapacities n seats places s cap

-- some seat has a firing left, and its first is known to be possible
pub record SomeFirst {A S T : Type 0} (s : Steps A S T) (n : Netlist A T) (seats : List (Seat A T S)) : Type 0 where
  pub which : ℕ
  pub which_in : which < length seats
  pub which_left : (e : Seat A T S) → (slice_index_or seats which e).next < length (slice_index_or seats which e).left
  pub which_can : (e : Seat A T S) → CanFireFirst s n (slice_index_or seats which e)
