-- The state of a run by rows, within a row and between two rows.
use Rattle.std.specs.Prelude.{◌≡◌, ℕ, ◌+◌, ◌^◌, ◌≤◌, ◌<◌, List, [], ◌∷◌, ◌++◌, length, take, drop, slice_index}
use Rattle.std.specs.Prelude.{slice_index_or, vec_capacity}
use Rattle.sdf_graph.specs.Sequences.{IsEnabled}
use Rattle.sdf_actor.specs.Steps.{Steps}
use Rattle.sdf_actor.specs.Histories.{taken, taken_before}
use Rattle.sdf_actor.specs.NetFaults.{WasAccepted}
use Rattle.sdf_actor.specs.Nets.{Netlist, node, wiring, answers, IsNet, IsHistoryOf, InputsReach}
use Rattle.sdf_node.specs.Nodes.{takes_of, puts_of, IsAt}
use Rattle.sdf_node.specs.declared.node.NodeState.{NodeState}
use Rattle.sdf_rows.specs.declared.row_firing.RowFiring.{RowFiring}
use Rattle.sdf_queues.specs.QueueValue.{QueueValue}
use Rattle.sdf_queues.specs.Blocks.{samples, room}
use Rattle.sdf_queues.specs.Sizes.{SizesValue, AreSizes, phase_of}

module _ {A S T : Type 0} (s : Steps A S T) (n : Netlist A T) where
  -- a job's blocks have room for any firing of any node
  pub record HasBlocks (j : RowFiring A T S) : Type 0 where
    pub taken : (a i : ℕ) → a < length n.nodes → takes_of s (node n a) (phase_of s (node n a) i) ≤ vec_capacity j.taken
    pub put : (a i : ℕ) → a < length n.nodes → puts_of s (node n a) (phase_of s (node n a) i) ≤ length j.put.items

  -- each of some jobs has blocks with room for any firing of any node
  abbrev pub HaveBlocks : List (RowFiring A T S) → Type 0
  HaveBlocks jobs = (i : ℕ) (j : RowFiring A T S) → i < length jobs → HasBlocks (slice_index_or jobs i j)

-- each of some jobs keeps its blocks
pub record KeepBlocks {A S T : Type 0} (jobs jobs' : List (RowFiring A T S)) : Type 0 where
  pub all : length jobs' ≡ length jobs
  pub taken : (i : ℕ) (j : RowFiring A T S) → i < length jobs →
      vec_capacity (slice_index_or jobs' i j).taken ≡ vec_capacity (slice_index_or jobs i j).taken
  pub put : (i : ℕ) (j : RowFiring A T S) → i < length jobs →
      length (slice_index_or jobs' i j).put.items ≡ length (slice_index_or jobs i j).put.items

module _ {A S T : Type 0} (s : Steps A S T) (n : Netlist A T) (inputs : List (List T)) (many : ℕ → ℕ) where
  -- the next firing of actor a is done: its job has its new state, and at the front of a block what it put
  pub record IsBack (k : ℕ → ℕ) (V : ℕ → List T) (a : ℕ) (j : RowFiring A T S) : Type 0 where
    pub actor : j.actor ≡ a
    pub phase : j.phase ≡ phase_of s (node n a) (k a)
    pub long : puts_of s (node n a) j.phase ≤ length j.put.items
    pub state : IsAt s inputs (many a) (node n a) (taken_before (wiring s n) V a (k a)
        ++ taken (wiring s n) V a (k a) ∷ []) j.state
    pub put : take (puts_of s (node n a) j.phase) j.put.items ≡
        answers s n inputs a (taken_before (wiring s n) V a (k a)) (taken (wiring s n) V a (k a))

  -- the job of the next firing of actor a is filled with its state, and has blocks for it
  pub record IsLoaded (k : ℕ → ℕ) (V : ℕ → List T) (a : ℕ) (j : RowFiring A T S) : Type 0 where
    pub actor : j.actor ≡ a
    pub phase : j.phase ≡ phase_of s (node n a) (k a)
    pub state : IsAt s inputs (many a) (node n a) (taken_before (wiring s n) V a (k a)) j.state
    pub blocks : HasBlocks s n j

  -- each node a has fired k a times, at least low a and at most high a, of many a in all. The channels hold the rest of
  -- a history, and have room for all up to high. The actors of acts from one place on are in jobs as P says; every
  -- other node has its state
  pub record IsRowState (P : (ℕ → ℕ) → (ℕ → List T) → ℕ → RowFiring A T S → Type 0) (low high : ℕ → ℕ)
      (acts : List ℕ) (from : ℕ)
      (k : ℕ → ℕ) (states : List (NodeState T S)) (ls : List (QueueValue T))
      (jobs : List (RowFiring A T S)) : Type 0 where
    pub small : (a : ℕ) → a < length n.nodes → many a < 2 ^ 63
    pub reach : InputsReach n inputs many
    pub top : (a : ℕ) → a < length n.nodes → high a ≤ many a
    pub history : ℕ → List T
    pub is : IsHistoryOf s n inputs k history
    pub channels : length ls ≡ length n.wires
    pub left : (c : ℕ) → c < length n.wires → samples ls c ≡
        drop ((wiring s n).rates.consumed c (k ((wiring s n).rates.target c))) (history c)
    pub above : (a : ℕ) → a < length n.nodes → low a ≤ k a
    pub below : (a : ℕ) → a < length n.nodes → k a ≤ high a
    pub fits : (c : ℕ) → c < length n.wires →
        (wiring s n).rates.initial c + (wiring s n).rates.produced c (high ((wiring s n).rates.source c)) ≤
        room ls c + (wiring s n).rates.consumed c (low ((wiring s n).rates.target c))
    pub nodes : length states ≡ length n.nodes
    pub known : (i : ℕ) → i < length acts → slice_index acts i < length n.nodes
    pub apart : (i m : ℕ) → i < length acts → m < length acts → slice_index acts i ≡ slice_index acts m → i ≡ m
    pub idle : (a : ℕ) (w : NodeState T S) → a < length n.nodes →
        ((i : ℕ) → from ≤ i → i < length acts → slice_index acts i ≡ a → ⊥) →
        IsAt s inputs (many a) (node n a) (taken_before (wiring s n) history a (k a)) (slice_index_or states a w)
    pub jobs_are : (i : ℕ) (j : RowFiring A T S) → from ≤ i → i < length acts →
        P k history (slice_index acts i) (slice_index_or jobs i j)
    pub able : (i : ℕ) → from ≤ i → i < length acts → IsEnabled (wiring s n).rates k (slice_index acts i)
    pub within : (i : ℕ) → from ≤ i → i < length acts → k (slice_index acts i) < high (slice_index acts i)

  -- before the firings of a row, and after them
  abbrev pub IsFilling : (ℕ → ℕ) → (ℕ → ℕ) → List ℕ → ℕ → (ℕ → ℕ) → List (NodeState T S) → List (QueueValue T) →
      List (RowFiring A T S) → Type 0
  IsFilling low high acts from k states ls jobs = IsRowState IsLoaded low high acts from k states ls jobs

  abbrev pub IsSettling : (ℕ → ℕ) → (ℕ → ℕ) → List ℕ → ℕ → (ℕ → ℕ) → List (NodeState T S) → List (QueueValue T) →
      List (RowFiring A T S) → Type 0
  IsSettling low high acts from k states ls jobs = IsRowState IsBack low high acts from k states ls jobs

  -- between two rows
  abbrev pub IsBetween : (ℕ → ℕ) → (ℕ → ℕ) → (ℕ → ℕ) → List (NodeState T S) → List (QueueValue T) → Type 0
  IsBetween low high k states ls = IsSettling low high [] 0 k states ls []

-- the firings of a row: actors of the net, each once, enabled at the counts before it and with firings left
pub record IsRow {A S T : Type 0} (s : Steps A S T) (n : Netlist A T) (k high : ℕ → ℕ) (acts : List ℕ) : Type 0 where
  pub known : (i : ℕ) → i < length acts → slice_index acts i < length n.nodes
  pub apart : (i m : ℕ) → i < length acts → m < length acts → slice_index acts i ≡ slice_index acts m → i ≡ m
  pub able : (i : ℕ) → i < length acts → IsEnabled (wiring s n).rates k (slice_index acts i)
  pub within : (i : ℕ) → i < length acts → k (slice_index acts i) < high (slice_index acts i)

-- a net that was accepted, and the sizes of its firings
pub record IsScene {A S T : Type 0} (s : Steps A S T) (n : Netlist A T) (z : SizesValue) : Type 0 where
  pub good : IsNet s n
  pub accepted : WasAccepted s n
  pub sizes : AreSizes s n z
