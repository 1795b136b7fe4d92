-- Blocks of a table, one after another.
use Rattle.std.specs.Prelude.{◌≡◌, ℕ, ◌+◌, ◌*◌, ◌≤◌, ◌<◌, List, length, slice_index}
use Rattle.sdf_actor.specs.Steps.{Steps}
use Rattle.sdf_actor.specs.Nets.{Netlist, wiring}
use Rattle.sdf_node.specs.declared.node.NodeState.{NodeState}
use Rattle.sdf_prec.specs.Blocks.{block}
use Rattle.sdf_queues.specs.QueueValue.{QueueValue}
use Rattle.sdf_queues.specs.Blocks.{room}
use Rattle.sdf_rows.specs.RowStates.{IsBetween}

-- counts of whole periods: the firings after them move what the first ones move, and each channel holds its initial
-- number of samples
pub record IsRound {A S T : Type 0} (s : Steps A S T) (n : Netlist A T) (k : ℕ → ℕ) : Type 0 where
  pub produced : (c i : ℕ) → c < length n.wires →
      (wiring s n).rates.produced c (k ((wiring s n).rates.source c) + i) ≡
      (wiring s n).rates.produced c (k ((wiring s n).rates.source c)) + (wiring s n).rates.produced c i
  pub consumed : (c i : ℕ) → c < length n.wires →
      (wiring s n).rates.consumed c (k ((wiring s n).rates.target c) + i) ≡
      (wiring s n).rates.consumed c (k ((wiring s n).rates.target c)) + (wiring s n).rates.consumed c i
  pub balanced : (c : ℕ) → c < length n.wires →
      (wiring s n).rates.produced c (k ((wiring s n).rates.source c)) ≡
      (wiring s n).rates.consumed c (k ((wiring s n).rates.target c))

-- how often each node has fired after the counts k and a block of j periods of q
abbrev pub block_after : List ℕ → ℕ → (ℕ → ℕ) → ℕ → ℕ
block_after q j k a = k a + slice_index (block j q) a

-- between blocks, after the first b of `blocks`: each channel has room for its initial samples and for what a block
-- puts on it
pub record IsResting {A S T : Type 0} (s : Steps A S T) (n : Netlist A T) (inputs : List (List T)) (q : List ℕ)
    (j blocks b : ℕ) (k : ℕ → ℕ) (states : List (NodeState T S)) (ls : List (QueueValue T)) : Type 0 where
  pub counts : (a : ℕ) → a < length n.nodes → k a ≡ b * (j * slice_index q a)
  pub rooms : (c : ℕ) → c < length n.wires →
      (wiring s n).rates.initial c + (wiring s n).rates.produced c
      (j * slice_index q ((wiring s n).rates.source c)) ≤ room ls c
  pub between : IsBetween s n inputs (λ a. blocks * (j * slice_index q a)) k k k states ls

-- after all blocks
abbrev pub IsOver : {A S T : Type 0} → Steps A S T → Netlist A T → List (List T) → List ℕ → ℕ → ℕ →
    List (NodeState T S) → List (QueueValue T) → Type 0
IsOver s n inputs q j blocks states ls = (k : ℕ → ℕ) × IsResting s n inputs q j blocks blocks k states ls
