-- A run over rings before its first firing.
use Rattle.std.specs.Prelude.{ℕ, ◌≡◌, ◌<◌, List, length, slice_index, slice_index_or, Some}
use Rattle.sdf_graph.specs.Sequences.{repeated}
use Rattle.sdf_prec.specs.Tables.{TableValue, row, home_in, IsHomed}
use Rattle.sdf_actor.specs.Steps.{Steps}
use Rattle.sdf_queues.specs.declared.fault.RunFault.{RunFault}
use Rattle.sdf_queues.specs.declared.fault.RunFault.TheVariants.{OutOfMemory, NotHomed, InputLength}
use Rattle.sdf_queues.specs.RunResults.{HasInputs}
use Rattle.sdf_actor.specs.NetFaults.{WasAccepted}
use Rattle.sdf_actor.specs.Nets.{Netlist}
use Rattle.sdf_rings.specs.declared.seat.ring_node.RingNode.{RingNode}
use Rattle.sdf_rings.specs.declared.seat.Seat.{Seat}
use Rattle.sdf_rings.specs.Rests.{ring_node_of, RingsValue, AreRings, HaveMet}
use Rattle.sdf_rings.specs.Asks.{IsPlanned}
use Rattle.sdf_rings.specs.MachineLaws.{MachinePlan, IsMachinePlan, firings}
use Rattle.sdf_rings.specs.Begun.{place}

-- the net was accepted. There is a seat for each processor of the table, and each node is on the seat of its home.
-- Nothing has fired, all ends are synchronized, this number of blocks of the table is asked, and the rings have room
-- for its capacities
pub record IsPrepared {A S T : Type 0} (s : Steps A S T) (n : Netlist A T) (inputs : List (List T)) (t : TableValue)
    (blocks : ℕ) (r : RingsValue A S T) : Type 0 where
  pub net_is : r.net ≡ n
  pub accepted : WasAccepted s n
  pub rings : AreRings s r
  pub inputs_are : r.inputs ≡ inputs
  pub columns : (i : ℕ) → i < length t.rows → length (row t.rows i) ≡ length r.seats
  pub processors : (i : ℕ) (e : Seat A T S) → i < length r.seats → (slice_index_or r.seats i e).processor ≡ i
  pub homes : (a : ℕ) → a < length n.nodes → home_in t a ≡ Some (place r.places a).0
  pub undone : (a : ℕ) (e : Seat A T S) (d : RingNode A T S) → a < length n.nodes →
      (ring_node_of n r.seats r.places e d a).done ≡ 0
  pub first : (i : ℕ) (e : Seat A T S) → i < length r.seats → (slice_index_or r.seats i e).next ≡ 0
  pub met : HaveMet n r.seats r.places
  pub planned : IsPlanned s n r.seats r.places (repeated blocks t.order) (slice_index t.caps)

-- the table belongs to a plan of the net, and the firings of this number of blocks are asked
pub record IsAsked {A S T : Type 0} (s : Steps A S T) (n : Netlist A T) (t : TableValue) (blocks : ℕ)
    (asked : ℕ → ℕ) : Type 0 where
  pub plan : MachinePlan
  pub is : IsMachinePlan s n plan
  pub table_is : plan.table ≡ t
  pub asked_are : (a : ℕ) → a < length n.nodes → asked a ≡ firings plan blocks a

-- the fault of the first test that fails: an actor without a home, then the inputs
abbrev pub IsPrepareFault : {A T : Type 0} → Netlist A T → List ℕ → ℕ → List (List T) → TableValue → RunFault → Type 0
IsPrepareFault n q periods inputs t OutOfMemory = Unit {0}
IsPrepareFault n q periods inputs t NotHomed = IsHomed t → ⊥
IsPrepareFault n q periods inputs t InputLength = IsHomed t × (HasInputs n q periods inputs → ⊥)
IsPrepareFault n q periods inputs t fault = ⊥
