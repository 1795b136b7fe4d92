-- The laws of node runtimes.
use Rattle.std.specs.Prelude.{◌≡◌, ℕ, ◌+◌, ◌*◌, ◌%◌, ◌≤◌, ◌<◌, List, length}
use Rattle.sdf_actor.specs.Steps.{Steps}
use Rattle.sdf_actor.specs.Nets.{cycle_of}
use Rattle.sdf_actor.specs.declared.node.Node.{Node}
use Rattle.sdf_node.specs.declared.node.NodeState.{NodeState}
use Rattle.sdf_node.specs.Nodes.{phase_at, takes_of, puts_of, CanStep, IsAt}
use Rattle.sdf_node.specs.Many.{nth_block, joined, CanStepMany}

-- a node that has firings left can do the next one, with blocks of the lengths of its phase
abbrev pub NodesCanStep : {A S T : Type 0} → Steps A S T → Type 0
NodesCanStep {A} {S} {T} s =
    (inputs : List (List T)) (x : Node A) (many : ℕ) (past : List (List T)) (w : NodeState T S) →
    IsAt s inputs many x past w →
    0 < cycle_of s x → length past < many → CanStep s inputs x w (takes_of s x (phase_at w)) (puts_of s x (phase_at w))

-- a node's phase is the phase of its next firing
abbrev pub NodesKeepPhase : {A S T : Type 0} → Steps A S T → Type 0
NodesKeepPhase {A} {S} {T} s =
    (inputs : List (List T)) (x : Node A) (many : ℕ) (past : List (List T)) (w : NodeState T S) →
    IsAt s inputs many x past w →
    phase_at w ≡ length past % cycle_of s x

-- a node of one phase with at least `many` firings left can do `many` firings in one batch
abbrev pub NodesCanStepMany : {A S T : Type 0} → Steps A S T → Type 0
NodesCanStepMany {A} {S} {T} s =
    (inputs : List (List T)) (x : Node A) (all many : ℕ) (past : List (List T)) (w : NodeState T S) →
    IsAt s inputs all x past w →
    cycle_of s x ≡ 1 → length past + many ≤ all → CanStepMany s inputs x w many (takes_of s x 0 * many)
    (puts_of s x 0 * many)

-- a list of `many` blocks of one size: each block has that size, and joined they are the list
abbrev pub BlocksJoin : Type 0 → Type 0
BlocksJoin T =
    (size many : ℕ) (xs : List T) → length xs ≡ size * many →
    ((i : ℕ) → i < many → length (nth_block size xs i) ≡ size) × (joined (nth_block size xs) many ≡ xs)
