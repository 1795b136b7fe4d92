-- What is taken out of the states of nodes: the lists that sinks made, and what actors keep.
use Rattle.std.specs.Prelude.{◌≡◌, ℕ, ◌<◌, List, length, slice_index_or, Option, None}
use Rattle.std.specs.Global.{Global}
use Rattle.std.specs.declared.vec.Vec.{Vec}
use Rattle.sdf_actor.specs.declared.node.Node.TheVariants as node
use Rattle.sdf_actor.specs.Nets as nets
use Rattle.sdf_actor.specs.Nets.{Netlist}
use Rattle.sdf_node.specs.Kept.{kept_state}
use Rattle.sdf_node.specs.declared.node.NodeState.{NodeState}
use Rattle.sdf_node.specs.declared.node.NodeState.TheVariants.{Sink}
use Rattle.sdf_queues.specs.Lists.{list}

-- the list of each sink among the first m nodes is in outputs at its number
abbrev pub AreCollected : {A S T : Type 0} → Netlist A T → ℕ → List (NodeState T S) → List (Vec T Global) → Type 0
AreCollected {A} {S} {T} n m states outputs =
    (a ext block : ℕ) (made : Vec T Global) (w : NodeState T S) → a < m → nets.node n a ≡ node.Sink ext block →
    slice_index_or states a w ≡ Sink made → list outputs ext ≡ made.items

-- kept has the state of each actor at its node
abbrev pub AreKept : {A S T : Type 0} → Netlist A T → List (NodeState T S) → List (Option S) → Type 0
AreKept {A} {S} {T} n states kept = (a : ℕ) (w : NodeState T S) → a < length n.nodes →
    slice_index_or kept a None ≡ kept_state (nets.node n a) (slice_index_or states a w)
