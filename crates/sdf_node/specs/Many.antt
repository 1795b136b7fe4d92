-- Batched firings of a node of one phase: the blocks of the firings are one after another.
use Rattle.std.specs.Prelude.{◌≡◌, ℕ, zero, suc, ◌+◌, ◌*◌, ◌≤◌, ◌<◌, List, [], ◌∷◌, ◌++◌, length, slice_index_or}
use Rattle.std.specs.Prelude.{vec_capacity}
use Rattle.std.specs.List.{between}
use Rattle.sdf_actor.specs.Steps.{Steps, total_in, total_out}
use Rattle.sdf_actor.specs.declared.node.Node.{Node}
use Rattle.sdf_actor.specs.declared.node.Node.TheVariants as node
use Rattle.sdf_node.specs.declared.node.NodeState.{NodeState}
use Rattle.sdf_node.specs.declared.node.NodeState.TheVariants.{Source, Sink, Inner}
use Rattle.sdf_node.specs.Nodes.{takes_of}

-- block i of a list that is cut into blocks of one size
abbrev pub nth_block : {T : Type 0} → ℕ → List T → ℕ → List T
nth_block size xs i = between (size * i) (size * (i + 1)) xs

-- the first i blocks as a list of blocks, and joined
abbrev pub listed : {T : Type 0} → (ℕ → List T) → ℕ → List (List T)
listed block zero = []
listed block (suc i) = listed block i ++ block i ∷ []

abbrev pub joined : {T : Type 0} → (ℕ → List T) → ℕ → List T
joined block zero = []
joined block (suc i) = joined block i ++ block i

-- each block has the length that a firing of the node takes
abbrev pub AreFullBlocks : {A S T : Type 0} → Steps A S T → Node A → List (List T) → Type 0
AreFullBlocks s x past = (i : ℕ) → i < length past → length (slice_index_or past i []) ≡ takes_of s x 0

-- the next `many` firings find what they read and have room for what they make; together they take `taken` samples and
-- put `put` samples
abbrev pub CanStepMany : {A S T : Type 0} → Steps A S T → List (List T) → Node A → NodeState T S → ℕ → ℕ → ℕ → Type 0
CanStepMany s inputs (node.Source ext block) (Source next) many taken put =
    (ext < length inputs) × (next + put ≤ length (slice_index_or inputs ext [])) × (put ≡ block * many)
CanStepMany s inputs (node.Sink ext block) (Sink list) many taken put =
    (length list.items + taken ≤ vec_capacity list) × (taken ≡ block * many) × (put ≡ 0)
CanStepMany s inputs (node.Inner x) (Inner j state) many taken put =
    (s.cycle x ≡ 1) × (j < s.cycle x) × (taken ≡ total_in s x 0 * many) × (put ≡ total_out s x 0 * many)
CanStepMany s inputs x w many taken put = ⊥
