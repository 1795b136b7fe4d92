-- The net state that a history leaves, and the net that begins with it.
use Rattle.std.specs.Prelude.{◌≡◌, ℕ, ◌*◌, ◌<◌, List, [], ◌++◌, length, drop, Option, Some, None, slice_index_or}
use Rattle.sdf_graph.specs.Sequences.{IsPeriod}
use Rattle.sdf_graph.specs.Periods.{Divides}
use Rattle.sdf_actor.specs.declared.node.Node.{Node}
use Rattle.sdf_actor.specs.declared.node.Node.TheVariants.{Source, Sink, Inner}
use Rattle.sdf_actor.specs.declared.net_state.NetState.{NetState}
use Rattle.sdf_actor.specs.Resumed.{BeginsIn}
use Rattle.sdf_actor.specs.Histories.{taken_before}
use Rattle.sdf_actor.specs.Nets.{Netlist, node, wire, wiring, cycle_of, IsHistoryOf}
use Rattle.sdf_actor.specs.Steps.{Steps, state_after}
use Rattle.sdf_actor.specs.Wires.{lists}

-- counts of whole periods: each channel has equal numbers of samples put and taken, and rates and phases begin anew
pub record AreWhole {A S T : Type 0} (s : Steps A S T) (n : Netlist A T) (k : ℕ → ℕ) : Type 0 where
  pub period : IsPeriod (wiring s n).rates k
  pub cycles : (a : ℕ) → a < length n.nodes → Divides (cycle_of s (node n a)) (k a)

-- the state of a node after it took these blocks; None for a source or a sink
abbrev pub state_left : {A S T : Type 0} → Steps A S T → Node A → List (List T) → Option S
state_left s (Source ext block) past = None
state_left s (Sink ext block) past = None
state_left s (Inner x) past = Some (state_after s x past)

-- `rest` is what the history V leaves after k a firings of each node a: each node's state after all that it took, and
-- on each channel the samples that were not taken
pub record Leaves {A S T : Type 0} (s : Steps A S T) (n : Netlist A T) (k : ℕ → ℕ) (V : ℕ → List T)
    (rest : NetState T S) : Type 0 where
  pub nodes : length rest.states.items ≡ length n.nodes
  pub states : (a : ℕ) → a < length n.nodes →
      slice_index_or rest.states.items a None ≡ state_left s (node n a) (taken_before (wiring s n) V a (k a))
  pub channels : length rest.held.items ≡ length n.wires
  pub held : (c : ℕ) → c < length n.wires →
      slice_index_or (lists rest.held.items) c [] ≡
      drop ((wiring s n).rates.consumed c (k ((wiring s n).rates.target c))) (V c)

-- the history on these inputs leaves `rest`
pub record IsNetState {A S T : Type 0} (s : Steps A S T) (n : Netlist A T) (inputs : List (List T)) (k : ℕ → ℕ)
    (rest : NetState T S) : Type 0 where
  pub history : ℕ → List T
  pub is : IsHistoryOf s n inputs k history
  pub left : Leaves s n k history rest

-- y is node x, except that an actor begins in the given state
abbrev pub IsResumedNode : {A B S T : Type 0} → Steps A S T → Steps B S T → Option S → Node A → Node B → Type 0
IsResumedNode s r state (Source ext block) y = y ≡ Source ext block
IsResumedNode s r state (Sink ext block) y = y ≡ Sink ext block
IsResumedNode {A} {B} {S} {T} s r state (Inner x) y =
    (b : B) × (now : S) × (y ≡ Inner b) × (state ≡ Some now) × BeginsIn s r x now b

-- m is net n, except that its actors begin in the states of `rest`, and its channels with the samples of `rest`
pub record IsResumedNet {A B S T : Type 0} (s : Steps A S T) (r : Steps B S T) (n : Netlist A T) (rest : NetState T S)
    (m : Netlist B T) : Type 0 where
  pub nodes : length m.nodes ≡ length n.nodes
  pub each : (a : ℕ) → a < length n.nodes → IsResumedNode s r (slice_index_or rest.states.items a None)
      (node n a) (node m a)
  pub wires : length m.wires ≡ length n.wires
  pub from : (c : ℕ) → c < length n.wires → (wire m c).from ≡ (wire n c).from
  pub to : (c : ℕ) → c < length n.wires → (wire m c).to ≡ (wire n c).to
  pub initial : (c : ℕ) → c < length n.wires → (wire m c).initial ≡ slice_index_or (lists rest.held.items) c []

-- each source has read all of its list
abbrev pub AllRead : {A T : Type 0} → Netlist A T → List (List T) → (ℕ → ℕ) → Type 0
AllRead n inputs k =
    (a ext block : ℕ) → a < length n.nodes → node n a ≡ Source ext block →
    length (slice_index_or inputs ext []) ≡ block * k a

-- each list of `all` is the one of `first`, then the one of `later`
abbrev pub AreJoined : {T : Type 0} → List (List T) → List (List T) → List (List T) → Type 0
AreJoined first later all = (e : ℕ) → slice_index_or all e [] ≡ slice_index_or first e [] ++ slice_index_or later e []
