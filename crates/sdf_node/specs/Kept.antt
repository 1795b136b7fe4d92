-- The states that actors keep.
use Rattle.std.specs.Prelude.{◌≡◌, ℕ, List, Option, Some, None}
use Rattle.sdf_actor.specs.declared.node.Node.{Node}
use Rattle.sdf_actor.specs.declared.node.Node.TheVariants as node
use Rattle.sdf_actor.specs.NetStates.{state_left}
use Rattle.sdf_actor.specs.Steps.{Steps}
use Rattle.sdf_node.specs.declared.node.NodeState.{NodeState}
use Rattle.sdf_node.specs.declared.node.NodeState.TheVariants.{Inner}
use Rattle.sdf_node.specs.Nodes.{IsAt}

-- the state of an actor, and None for a source or a sink
abbrev pub kept_state : {A S T : Type 0} → Node A → NodeState T S → Option S
kept_state (node.Inner x) (Inner phase state) = Some state
kept_state x w = None

-- a node keeps the state that follows from all that it took
abbrev pub NodesKeepStates : {A S T : Type 0} → Steps A S T → Type 0
NodesKeepStates {A} {S} {T} s =
    (inputs : List (List T)) (many : ℕ) (x : Node A) (past : List (List T)) (w : NodeState T S) →
    IsAt s inputs many x past w → kept_state x w ≡ state_left s x past
