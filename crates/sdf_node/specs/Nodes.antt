-- Node runtimes, whatever holds the nodes' channels.
use Rattle.std.specs.Prelude.{◌≡◌, ℕ, ◌+◌, ◌*◌, ◌≤◌, ◌<◌, List, [], length, slice_index_or, vec_capacity}
use Rattle.std.specs.List.{flat_map}
use Rattle.sdf_actor.specs.Nets.{cycle_of}
use Rattle.sdf_actor.specs.Steps.{Steps, phase, total_in, total_out, state_after}
use Rattle.sdf_actor.specs.declared.node.Node.{Node}
use Rattle.sdf_actor.specs.declared.node.Node.TheVariants as node
use Rattle.sdf_node.specs.declared.node.NodeState.{NodeState}
use Rattle.sdf_node.specs.declared.node.NodeState.TheVariants.{Source, Sink, Inner}

-- the phase of the next firing
abbrev pub phase_at : {T S : Type 0} → NodeState T S → ℕ
phase_at (Source next) = 0
phase_at (Sink list) = 0
phase_at (Inner j state) = j

-- the samples that a firing at phase j takes and puts at all ports
abbrev pub takes_of : {A S T : Type 0} → Steps A S T → Node A → ℕ → ℕ
takes_of s (node.Source ext block) j = 0
takes_of s (node.Sink ext block) j = block
takes_of s (node.Inner x) j = total_in s x j

abbrev pub puts_of : {A S T : Type 0} → Steps A S T → Node A → ℕ → ℕ
puts_of s (node.Source ext block) j = block
puts_of s (node.Sink ext block) j = 0
puts_of s (node.Inner x) j = total_out s x j

-- no firing of a node takes more than `max_samples` samples at all its ports, or puts more than `max_samples` on them
abbrev pub IsMaxSamples : {A S T : Type 0} → Steps A S T → Node A → ℕ → Type 0
IsMaxSamples s x max_samples = (j : ℕ) → j < cycle_of s x →
    (takes_of s x j ≤ max_samples) × (puts_of s x j ≤ max_samples)

-- the next firing finds what it reads and has room for what it makes; it takes `taken` samples and puts `put` samples
abbrev pub CanStep : {A S T : Type 0} → Steps A S T → List (List T) → Node A → NodeState T S → ℕ → ℕ → Type 0
CanStep s inputs (node.Source ext block) (Source next) taken put =
    (ext < length inputs) × (next + put ≤ length (slice_index_or inputs ext [])) × (put ≡ block)
CanStep s inputs (node.Sink ext block) (Sink list) taken put =
    (length list.items + taken ≤ vec_capacity list) × (taken ≡ block) × (put ≡ 0)
CanStep s inputs (node.Inner x) (Inner j state) taken put =
    (j < s.cycle x) × (taken ≡ total_in s x j) × (put ≡ total_out s x j)
CanStep s inputs x w taken put = ⊥

-- a node's state after it took the blocks `past`, if it has `many` firings in all
abbrev pub IsAt : {A S T : Type 0} → Steps A S T → List (List T) → ℕ → Node A → List (List T) → NodeState T S → Type 0
IsAt s inputs many (node.Source ext block) past (Source next) =
    (next ≡ block * length past) × (ext < length inputs) × (block * many ≤ length (slice_index_or inputs ext []))
IsAt s inputs many (node.Sink ext block) past (Sink list) =
    (list.items ≡ flat_map (λ b. b) past) × (length list.items ≡ block * length past)
    × (block * many ≤ vec_capacity list)
IsAt s inputs many (node.Inner x) past (Inner j state) = (j ≡ phase s x (length past)) × (state ≡ state_after s x past)
IsAt s inputs many x past w = ⊥

-- a source finds what it reads in `many` firings, and a sink's list with room for `room` samples holds what it takes in
-- them
abbrev pub CanBegin : {A T : Type 0} → List (List T) → ℕ → ℕ → Node A → Type 0
CanBegin inputs many room (node.Source ext block) =
    (ext < length inputs) × (block * many ≤ length (slice_index_or inputs ext []))
CanBegin inputs many room (node.Sink ext block) = block * many ≤ room
CanBegin inputs many room (node.Inner x) = Unit {0}
