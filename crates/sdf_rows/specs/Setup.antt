-- The state that a run by rows begins with.
use Rattle.std.specs.Prelude.{ℕ, ◌≤◌, ◌<◌, List, [], length, slice_index_or, vec_capacity}
use Rattle.sdf_actor.specs.Steps.{Steps}
use Rattle.sdf_actor.specs.declared.node.Node.{Node}
use Rattle.sdf_actor.specs.Nets.{Netlist, node, cycle_of}
use Rattle.sdf_node.specs.Nodes.{takes_of, puts_of, CanBegin, IsAt}
use Rattle.sdf_node.specs.declared.node.NodeState.{NodeState}
use Rattle.sdf_rows.specs.declared.row_firing.RowFiring.{RowFiring}

-- a node's state before its first firing, if its list has this room
abbrev pub IsUnfired : {A S T : Type 0} → Steps A S T → ℕ → Node A → NodeState T S → Type 0
IsUnfired {A} {S} {T} s room x w = (inputs : List (List T)) (many : ℕ) → CanBegin inputs many room x →
    IsAt s inputs many x [] w

-- the states of all nodes before their first firing
abbrev pub AreUnfired : {A S T : Type 0} → Steps A S T → ℕ → Netlist A T → List (NodeState T S) → Type 0
AreUnfired {A} {S} {T} s room n states = (a : ℕ) (w : NodeState T S) → a < length n.nodes →
    IsUnfired s room (node n a) (slice_index_or states a w)

-- a job's blocks have room for any firing of any node, phase by phase
abbrev pub HasPlaces : {A S T : Type 0} → Steps A S T → Netlist A T → RowFiring A T S → Type 0
HasPlaces s n j = (a i : ℕ) → a < length n.nodes → i < cycle_of s (node n a) →
    (takes_of s (node n a) i ≤ vec_capacity j.taken) × (puts_of s (node n a) i ≤ length j.put.items)
