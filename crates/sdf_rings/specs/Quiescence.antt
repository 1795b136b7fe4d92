-- The state of the ring machine that the ring nodes make up.
use Rattle.std.specs.Prelude.{ℕ, ◌≡◌, ◌<◌, List, length, Some}
use Rattle.std.specs.Global.{Global}
use Rattle.rtrb.specs.Ring.{sent}
use Rattle.rtrb.specs.declared.producer.Producer.{Producer}
use Rattle.rtrb.specs.declared.AnyItems.{AnyItems}
use Rattle.sdf_graph.specs.Sequences.{repeated}
use Rattle.sdf_actor.specs.declared.node.Node.TheVariants.{Inner}
use Rattle.sdf_actor.specs.Steps.{Steps}
use Rattle.sdf_actor.specs.Nets.{Netlist, node}
use Rattle.sdf_rings.specs.declared.seat.ring_node.RingNode.{RingNode}
use Rattle.sdf_rings.specs.declared.seat.Seat.{Seat}
use Rattle.sdf_rings.specs.Asks.{IsPlanned}
use Rattle.sdf_rings.specs.MachineLaws.{MachinePlan, Idle, IsMachinePlan, IsQuiescent, IsReached, capacity}
use Rattle.sdf_rings.specs.Rests.{ring_node_of, state_in, producer_of, RingsValue}

-- how often each node has fired, the state of each actor, and what was put on each channel. Sources and sinks may have
-- any state
pub record IsMadeOf {A S T : Type 0} (n : Netlist A T) (seats : List (Seat A T S)) (places : List (ℕ × ℕ))
    (x : Idle S T) : Type 0 where
  pub dones : (a : ℕ) (e : Seat A T S) (d : RingNode A T S) → a < length n.nodes →
      x.done a ≡ (ring_node_of n seats places e d a).done
  pub states : (a : ℕ) (y : A) (e : Seat A T S) (d : RingNode A T S) → a < length n.nodes → node n a ≡ Inner y →
      state_in (ring_node_of n seats places e d a).state ≡ Some (x.states a)
  pub lists : (c : ℕ) (e : Seat A T S) (d : RingNode A T S) (y : Producer T Global AnyItems) → c < length n.wires →
      x.lists c ≡ sent (producer_of n seats places e d y c)

-- if b blocks of a valid table are asked, the state is quiescent, and a run of the machine from the start leads to it
abbrev pub AreQuiescent : {A S T : Type 0} → Steps A S T → RingsValue A S T → Type 0
AreQuiescent {A} {S} {T} s r =
    (p : MachinePlan) (b : ℕ) (x : Idle S T) → IsMachinePlan s r.net p →
    IsPlanned s r.net r.seats r.places (repeated b p.table.order) (capacity p) → IsMadeOf r.net r.seats r.places x →
    IsQuiescent s r.net r.inputs (capacity p) x × IsReached s r.net r.inputs p b x
