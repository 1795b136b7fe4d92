-- Nodes and seats before their first firing.
use Rattle.std.specs.Prelude.{ℕ, ◌≡◌, ◌<◌, ◌==◌, List, [], length, map, slice_index, slice_index_or, take, Option, Some}
use Rattle.std.specs.Prelude.{None, vec_len}
use Rattle.std.specs.Global.{Global}
use Rattle.rtrb.specs.declared.producer.Producer.{Producer}
use Rattle.rtrb.specs.declared.consumer.Consumer.{Consumer}
use Rattle.rtrb.specs.declared.AnyItems.{AnyItems}
use Rattle.std.specs.List.{count_by}
use Rattle.sdf_actor.specs.Steps.{Steps}
use Rattle.rtrb.specs.Ring.{sent, received}
use Rattle.sdf_actor.specs.NetFaults.{WasAccepted}
use Rattle.sdf_actor.specs.Nets.{Netlist, wire, node, wiring, inputs_of, outputs_of, cycle_of, IsNet}
use Rattle.sdf_actor.specs.Wires.{lists}
use Rattle.sdf_node.specs.Nodes.{CanBegin}
use Rattle.sdf_queues.specs.Sizes.{AreSizes}
use Rattle.sdf_rings.specs.declared.setup.assignment.Assignment.{Assignment}
use Rattle.sdf_rings.specs.declared.setup.ring_nodes.Start.{Start}
use Rattle.sdf_rings.specs.declared.seat.ring_node.RingNode.{RingNode}
use Rattle.sdf_rings.specs.declared.seat.Seat.{Seat}
use Rattle.sdf_rings.specs.Asks.{dealt}
use Rattle.sdf_rings.specs.Openings.{end_at}
use Rattle.sdf_rings.specs.RingNodes.{IsRingNode}

-- the place of node a: its seat, and its index there
abbrev pub place : List (ℕ × ℕ) → ℕ → ℕ × ℕ
place places a = slice_index_or places a (0, 0)

-- how many of the places are on a seat
abbrev pub count_on_seat : List (ℕ × ℕ) → ℕ → ℕ
count_on_seat places seat = count_by (λ p. p.0 == seat) places

-- each node has the next index on its seat
abbrev pub AreNext : List (ℕ × ℕ) → Type 0
AreNext places = (a : ℕ) → a < length places → (place places a).1 ≡ count_on_seat (take a places) (place places a).0

-- each firing is of a node that has a place
abbrev pub IsAssignment : Assignment → Type 0
IsAssignment r = (i : ℕ) → i < length r.order.now → slice_index r.order.now i < length r.places.now

-- each node can do the firings that are asked of it if a sink has this room. If any firing is asked, there is a sample
-- to fill working blocks with
pub record CanStart {A S T : Type 0} (s : Steps A S T) (n : Netlist A T) (inputs : List (List T)) (asked : ℕ → ℕ)
    (room : ℕ) (filler : Option T) : Type 0 where
  pub net : IsNet s n
  pub phases : (a : ℕ) → a < length n.nodes → 0 < cycle_of s (node n a)
  pub begin : (a : ℕ) → a < length n.nodes → CanBegin inputs (asked a) room (node n a)
  pub fillers : (a : ℕ) → a < length n.nodes → filler ≡ None → asked a ≡ 0

-- what a run of an accepted net begins with: nodes that can start, what their firings move, and how many are asked of
-- each
pub record IsStart {A S T : Type 0} (s : Steps A S T) (x : Start A T S) : Type 0 where
  pub accepted : WasAccepted s x.net.now
  pub can : CanStart s x.net.now (lists x.inputs.now) (slice_index x.asked.items) x.room x.filler
  pub sizes_are : AreSizes s x.net.now x.sizes
  pub asked_all : vec_len x.asked ≡ length x.net.now.nodes

-- the ends of rings at the ports of node a
pub record HasIns {A S T : Type 0} (s : Steps A S T) (n : Netlist A T) (a : ℕ)
    (ins : List (Consumer T Global AnyItems)) : Type 0 where
  pub all : length ins ≡ inputs_of s (node n a)
  pub untaken : (i : ℕ) (d : Consumer T Global AnyItems) → i < length ins → received (slice_index_or ins i d) ≡ []

pub record HasOuts {A S T : Type 0} (s : Steps A S T) (n : Netlist A T) (a : ℕ)
    (outs : List (Producer T Global AnyItems)) : Type 0 where
  pub all : length outs ≡ outputs_of s (node n a)
  pub put : (i : ℕ) (d : Producer T Global AnyItems) → i < length outs →
      sent (slice_index_or outs i d) ≡ (wiring s n).starts (slice_index ((wiring s n).outs a) i)

module _ {A S T : Type 0} (s : Steps A S T) (n : Netlist A T) (inputs : List (List T)) (asked : ℕ → ℕ)
    (producers : List (Option (Producer T Global AnyItems)))
    (consumers : List (Option (Consumer T Global AnyItems))) where
  -- node a has not fired, and asked a is the number of firings asked of it. It has its ends of these rings
  pub record HasBegun (a : ℕ) (x : RingNode A T S) : Type 0 where
    pub is : IsRingNode s n inputs x
    pub actor_is : x.actor ≡ a
    pub undone : x.done ≡ 0
    pub asked_is : x.asked ≡ asked a
    pub ins_are : (c : ℕ) (d : Consumer T Global AnyItems) → c < length n.wires → (wire n c).to.0 ≡ a →
        end_at consumers c ≡ Some (slice_index_or x.ins.items (wire n c).to.1 d)
    pub outs_are : (c : ℕ) (d : Producer T Global AnyItems) → c < length n.wires → (wire n c).from.0 ≡ a →
        end_at producers c ≡ Some (slice_index_or x.outs.items (wire n c).from.1 d)

  -- the nodes of seat i are there, each at its index, and nothing else is
  pub record AreBegun (places : List (ℕ × ℕ)) (i : ℕ) (ring_nodes : List (RingNode A T S)) : Type 0 where
    pub known : (a : ℕ) → a < length n.nodes → (place places a).0 ≡ i → (place places a).1 < length ring_nodes
    pub here : (a : ℕ) (d : RingNode A T S) → a < length n.nodes → (place places a).0 ≡ i →
        HasBegun a (slice_index_or ring_nodes (place places a).1 d)
    pub only : (k : ℕ) → k < length ring_nodes → (a : ℕ) × (a < length n.nodes) × ((place places a).0 ≡ i)
        × ((place places a).1 ≡ k)

  -- seat i before its first firing: its list has its firings of the sequence
  pub record IsBegun (places : List (ℕ × ℕ)) (order : List ℕ) (i : ℕ) (x : Seat A T S) : Type 0 where
    pub processor_is : x.processor ≡ i
    pub first : x.next ≡ 0
    pub ring_nodes_are : AreBegun places i x.ring_nodes.items
    pub left_is : x.left ≡ map (λ a. (place places a).1) (dealt places order i)

  -- the first `many` seats before their first firing
  abbrev pub HaveBegun : List (ℕ × ℕ) → List ℕ → ℕ → List (Seat A T S) → Type 0
  HaveBegun places order many seats = (i : ℕ) (e : Seat A T S) → i < many →
      IsBegun places order i (slice_index_or seats i e)
