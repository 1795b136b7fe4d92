-- Before the first firing: rings that are opened, and where their ends are once they are dealt out.
use Rattle.std.specs.Prelude.{ℕ, ◌≡◌, ◌<◌, ◌≤◌, List, [], length, slice_index, slice_index_or, Option, Some, None}
use Rattle.std.specs.Global.{Global}
use Rattle.rtrb.specs.Ring.{sent, received, producer_capacity, IsPair}
use Rattle.rtrb.specs.declared.producer.Producer.{Producer}
use Rattle.rtrb.specs.declared.consumer.Consumer.{Consumer}
use Rattle.rtrb.specs.declared.AnyItems.{AnyItems}
use Rattle.sdf_actor.specs.Steps.{Steps}
use Rattle.sdf_actor.specs.Nets.{Netlist, wire, wiring}
use Rattle.sdf_rings.specs.Asks.{IsRoomOf}
use Rattle.sdf_rings.specs.Ends.{IsMet}

-- both ends of a ring know all that is in it: samples of which nothing was taken
pub record IsOpened {T : Type 0} (p : Producer T Global AnyItems) (x : Consumer T Global AnyItems)
    (samples : List T) : Type 0 where
  pub met : IsMet p x
  pub put : sent p ≡ samples
  pub untaken : received x ≡ []

-- m is the greatest of the numbers xs
pub record IsGreatestOf (xs : List ℕ) (m : ℕ) : Type 0 where
  pub above : (i : ℕ) → i < length xs → slice_index xs i ≤ m
  pub reached : (i : ℕ) × (i < length xs) × (slice_index xs i ≡ m)

-- the end at a number, among ends that are taken out one by one
abbrev pub end_at : {E : Type 0} → List (Option E) → ℕ → Option E
end_at ends c = slice_index_or ends c None

-- these are the ends at some numbers, in order
abbrev pub AreEndsAt : {E : Type 0} → List (Option E) → List ℕ → List E → Type 0
AreEndsAt {E} ends numbers taken = (i : ℕ) (d : E) → i < length numbers →
    end_at ends (slice_index numbers i) ≡ Some (slice_index_or taken i d)

-- the ring of channel c is open
pub record HasRing {A S T : Type 0} (s : Steps A S T) (n : Netlist A T) (cap : ℕ → ℕ) (c : ℕ)
    (producers : List (Option (Producer T Global AnyItems)))
    (consumers : List (Option (Consumer T Global AnyItems))) : Type 0 where
  pub producer : Producer T Global AnyItems
  pub consumer : Consumer T Global AnyItems
  pub puts : end_at producers c ≡ Some producer
  pub takes : end_at consumers c ≡ Some consumer
  pub opened : IsOpened producer consumer (wire n c).initial
  pub room : IsRoomOf (wiring s n).rates cap c (producer_capacity producer)

-- the rings of all channels are open
pub record HaveRings {A S T : Type 0} (s : Steps A S T) (n : Netlist A T) (cap : ℕ → ℕ)
    (producers : List (Option (Producer T Global AnyItems)))
    (consumers : List (Option (Consumer T Global AnyItems))) : Type 0 where
  pub producers_all : length producers ≡ length n.wires
  pub consumers_all : length consumers ≡ length n.wires
  pub each : (c : ℕ) → c < length n.wires → HasRing s n cap c producers consumers

-- the ends at node a are still there, and as they were opened
pub record HasEnds {A T : Type 0} (n : Netlist A T) (a : ℕ) (producers : List (Option (Producer T Global AnyItems)))
    (consumers : List (Option (Consumer T Global AnyItems))) : Type 0 where
  pub into : (c : ℕ) → c < length n.wires → (wire n c).to.0 ≡ a →
      (x : Consumer T Global AnyItems) × (end_at consumers c ≡ Some x) × (received x ≡ [])
  pub out_of : (c : ℕ) → c < length n.wires → (wire n c).from.0 ≡ a →
      (p : Producer T Global AnyItems) × (end_at producers c ≡ Some p) × (sent p ≡ (wire n c).initial)
  pub own : (c : ℕ) (p : Producer T Global AnyItems) (x : Consumer T Global AnyItems) → c < length n.wires →
      (wire n c).from.0 ≡ a → (wire n c).to.0 ≡ a →
      end_at producers c ≡ Some p → end_at consumers c ≡ Some x → IsPair p x
