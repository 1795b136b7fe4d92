-- All ends in one hand: each node is on one seat, and both ends of each ring know all of it.
use Rattle.std.specs.Prelude.{ℕ, ◌≡◌, ◌<◌, List, [], All, length, drop, vec_len, slice_index_or, Option, Some, None}
use Rattle.std.specs.declared.vec.Vec.{Vec}
use Rattle.std.specs.Global.{Global}
use Rattle.rtrb.specs.Ring.{sent, known_items, IsPair}
use Rattle.rtrb.specs.declared.producer.Producer.{Producer}
use Rattle.rtrb.specs.declared.consumer.Consumer.{Consumer}
use Rattle.rtrb.specs.declared.AnyItems.{AnyItems}
use Rattle.sdf_actor.specs.Steps.{Steps}
use Rattle.sdf_actor.specs.Histories.{taken_before}
use Rattle.sdf_actor.specs.Nets.{Netlist, node, wire, wiring, IsNet, IsHistoryOf}
use Rattle.sdf_actor.specs.declared.node.Node.TheVariants as kind
use Rattle.sdf_actor.specs.declared.net_state.NetState.{NetState}
use Rattle.sdf_actor.specs.Wires.{lists}
use Rattle.sdf_node.specs.Kept.{kept_state}
use Rattle.sdf_node.specs.Nodes.{IsAt}
use Rattle.sdf_node.specs.declared.node.NodeState.{NodeState}
use Rattle.sdf_node.specs.declared.node.NodeState.TheVariants.{Source, Sink, Inner}
use Rattle.sdf_rings.specs.declared.seat.ring_node.RingNode.{RingNode}
use Rattle.sdf_rings.specs.declared.seat.Seat.{Seat}
use Rattle.sdf_rings.specs.declared.rings.meet.RingEnd.{RingEnd}
use Rattle.sdf_rings.specs.Ends.{IsMet}
use Rattle.sdf_rings.specs.Places.{ring_node_at}
use Rattle.sdf_rings.specs.Seats.{IsSeat}

module _ {A S T : Type 0} (n : Netlist A T) (seats : List (Seat A T S)) (places : List (ℕ × ℕ)) where
  -- the ring node of a node. The places are by node: a seat, and a ring node on it
  abbrev pub ring_node_of : Seat A T S → RingNode A T S → ℕ → RingNode A T S
  ring_node_of e d a = ring_node_at seats (slice_index_or places a (0, 0)).0 (slice_index_or places a (0, 0)).1 e d

  pub record IsPlaced : Type 0 where
    pub seat_in : (a : ℕ) → a < length n.nodes → (slice_index_or places a (0, 0)).0 < length seats
    pub ring_node_in : (a : ℕ) (e : Seat A T S) → a < length n.nodes →
        (slice_index_or places a (0, 0)).1 < vec_len
        (slice_index_or seats (slice_index_or places a (0, 0)).0 e).ring_nodes
    pub is : (a : ℕ) (e : Seat A T S) (d : RingNode A T S) → a < length n.nodes → (ring_node_of e d a).actor ≡ a

  -- the two ends of channel c
  abbrev pub producer_of : Seat A T S → RingNode A T S → Producer T Global AnyItems → ℕ → Producer T Global AnyItems
  producer_of e d y c = slice_index_or (ring_node_of e d (wire n c).from.0).outs.items (wire n c).from.1 y

  abbrev pub consumer_of : Seat A T S → RingNode A T S → Consumer T Global AnyItems → ℕ → Consumer T Global AnyItems
  consumer_of e d x c = slice_index_or (ring_node_of e d (wire n c).to.0).ins.items (wire n c).to.1 x

  abbrev pub HaveMet : Type 0
  HaveMet = (c : ℕ) (e : Seat A T S) (d : RingNode A T S) (x : Consumer T Global AnyItems)
      (y : Producer T Global AnyItems) → c < length n.wires → IsMet (producer_of e d y c) (consumer_of e d x c)

module _ {A S T : Type 0} (n : Netlist A T) (seats : List (Seat A T S)) (places : List (ℕ × ℕ)) where
  -- the two ends of each channel are of one ring
  pub record HavePairs : Type 0 where
    pub all : length places ≡ length n.nodes
    pub pair : (c : ℕ) (e : Seat A T S) (d : RingNode A T S) (x : Consumer T Global AnyItems)
        (y : Producer T Global AnyItems) → c < length n.wires →
        IsPair (producer_of n seats places e d y c) (consumer_of n seats places e d x c)

-- at rest after done a firings of each node a: what was put is the history, and each ring holds what is left of it.
-- Each node has the state after what it took
pub record AreAtRestAfter {A S T : Type 0} (s : Steps A S T) (n : Netlist A T) (inputs : List (List T))
    (seats : List (Seat A T S)) (places : List (ℕ × ℕ)) (done : ℕ → ℕ) : Type 0 where
  pub history : ℕ → List T
  pub is : IsHistoryOf s n inputs done history
  pub dones : (a : ℕ) (e : Seat A T S) (d : RingNode A T S) → a < length n.nodes →
      (ring_node_of n seats places e d a).done ≡ done a
  pub put : (c : ℕ) (e : Seat A T S) (d : RingNode A T S) (y : Producer T Global AnyItems) → c < length n.wires →
      sent (producer_of n seats places e d y c) ≡ history c
  pub left : (c : ℕ) (e : Seat A T S) (d : RingNode A T S) (x : Consumer T Global AnyItems) → c < length n.wires →
      known_items (consumer_of n seats places e d x c) ≡
      drop ((wiring s n).rates.consumed c (done ((wiring s n).rates.target c))) (history c)
  pub states : (a : ℕ) (e : Seat A T S) (d : RingNode A T S) → a < length n.nodes →
      IsAt s inputs (ring_node_of n seats places e d a).asked (node n a) (taken_before (wiring s n) history a (done a))
      (ring_node_of n seats places e d a).state

-- the ring nodes are at rest at the counts of their firings done, whatever seat, ring node and ends are read
abbrev pub AreAtRest : {A S T : Type 0} → Steps A S T → Netlist A T → List (List T) → List (Seat A T S) → List (ℕ × ℕ) →
    Type 0
AreAtRest {A} {S} {T} s n inputs seats places =
    (e : Seat A T S) (d : RingNode A T S) (x : Consumer T Global AnyItems)
    (y : Producer T Global AnyItems) (k : ℕ → ℕ) →
    ((a : ℕ) → a < length n.nodes → (ring_node_of n seats places e d a).done ≡ k a) →
    AreAtRestAfter s n inputs seats places k

-- all the ends of a run in one hand. The places are by node: a seat, and a ring node on it
pub record RingsValue (A S T : Type 0) : Type 0 where
  pub net : Netlist A T
  pub inputs : List (List T)
  pub seats : List (Seat A T S)
  pub places : List (ℕ × ℕ)

pub record AreRings {A S T : Type 0} (s : Steps A S T) (r : RingsValue A S T) : Type 0 where
  pub is_net : IsNet s r.net
  pub each : All (IsSeat s r.net r.inputs) r.seats
  pub placed : IsPlaced r.net r.seats r.places
  pub paired : HavePairs r.net r.seats r.places

-- node a has done this number of firings
abbrev pub HasDone : {A S T : Type 0} → RingsValue A S T → ℕ → ℕ → Type 0
HasDone {A} {S} {T} r a many = (e : Seat A T S) (d : RingNode A T S) →
    many ≡ (ring_node_of r.net r.seats r.places e d a).done

-- channel c holds this number of samples, as known to the end that takes them
abbrev pub HoldsSamples : {A S T : Type 0} → RingsValue A S T → ℕ → ℕ → Type 0
HoldsSamples {A} {S} {T} r c many = (e : Seat A T S) (d : RingNode A T S) (x : Consumer T Global AnyItems) →
    many ≡ length (known_items (consumer_of r.net r.seats r.places e d x c))

-- the place of an end of a link
abbrev pub ring_end_of : List (ℕ × ℕ) → ℕ × ℕ → RingEnd
ring_end_of places end = record {
  seat = (slice_index_or places end.0 (0, 0)).0;
  ring_node = (slice_index_or places end.0 (0, 0)).1;
  port = end.1;
}

-- the state of an actor at work
abbrev pub state_in : {T S : Type 0} → NodeState T S → Option S
state_in (Source next) = None
state_in (Sink list) = None
state_in (Inner j state) = Some state

-- the lists of the sinks among the first m nodes are in the outputs, each at its number
abbrev pub AreGiven : {A S T : Type 0} → Netlist A T → List (Seat A T S) → List (ℕ × ℕ) → ℕ → List (Vec T Global) →
    Type 0
AreGiven {A} {S} {T} n seats places m outputs =
    (a ext block : ℕ) (made : Vec T Global) (e : Seat A T S) (d : RingNode A T S) → a < m →
    node n a ≡ kind.Sink ext block →
    (ring_node_of n seats places e d a).state ≡ Sink made → slice_index_or (lists outputs) ext [] ≡ made.items

-- these are the states of the actors, each at its node
abbrev pub HoldStates : {A S T : Type 0} → Netlist A T → List (Seat A T S) → List (ℕ × ℕ) → List (Option S) → Type 0
HoldStates {A} {S} {T} n seats places states = (a : ℕ) (e : Seat A T S) (d : RingNode A T S) → a < length n.nodes →
    slice_index_or states a None ≡ kept_state (node n a) (ring_node_of n seats places e d a).state

-- these are the items that are known of each ring, at its channel
abbrev pub HoldItems : {A S T : Type 0} → Netlist A T → List (Seat A T S) → List (ℕ × ℕ) → List (List T) → Type 0
HoldItems {A} {S} {T} n seats places items =
    (c : ℕ) (e : Seat A T S) (d : RingNode A T S) (x : Consumer T Global AnyItems) → c < length n.wires →
    slice_index_or items c [] ≡ known_items (consumer_of n seats places e d x c)

-- the net state that the seats hold: the state of each actor, and the items that are known of each ring
pub record HoldNetState {A S T : Type 0} (n : Netlist A T) (seats : List (Seat A T S)) (places : List (ℕ × ℕ))
    (rest : NetState T S) : Type 0 where
  pub nodes : length rest.states.items ≡ length n.nodes
  pub states_held : HoldStates n seats places rest.states.items
  pub channels : length rest.held.items ≡ length n.wires
  pub items_held : HoldItems n seats places (lists rest.held.items)
