-- The firings of one row, which are its jobs.
use Rattle.std.specs.Prelude.{◌≡◌, ℕ, ◌≤◌, ◌<◌, List, [], ◌∷◌, ◌++◌, length, take, slice_index, slice_index_or}
use Rattle.std.specs.Prelude.{vec_capacity}
use Rattle.std.specs.List.{sum_by}
use Rattle.sdf_actor.specs.Steps.{Steps}
use Rattle.sdf_actor.specs.Nets.{Netlist, node, wiring, cycle_of, answer_of}
use Rattle.sdf_node.specs.Nodes.{puts_of, CanStep, IsAt}
use Rattle.sdf_rows.specs.declared.row_firing.RowFiring.{RowFiring}
use Rattle.sdf_queues.specs.QueueValue.{QueueValue}
use Rattle.sdf_queues.specs.Blocks.{front, ArePorts, HoldBlocks}
use Rattle.sdf_queues.specs.Sizes.{SizesValue, at_phase}

module _ {A S T : Type 0} (s : Steps A S T) (n : Netlist A T) (inputs : List (List T)) (z : SizesValue)
    (ls : List (QueueValue T)) where
  -- the block that a firing takes
  abbrev pub block_of : RowFiring A T S → List T
  block_of j = front (at_phase z.takes j.phase) ((wiring s n).ins j.actor) ls

  -- the samples of a job's firing are on the channels, and it can be done
  pub record JobFits (j : RowFiring A T S) : Type 0 where
    pub known : j.actor < length n.nodes
    pub in_cycle : j.phase < cycle_of s (node n j.actor)
    pub sized : j.phase < length z.takes
    pub ports : ArePorts ((wiring s n).ins j.actor) (at_phase z.takes j.phase) (length ls)
    pub held : HoldBlocks ((wiring s n).ins j.actor) (at_phase z.takes j.phase) ls
    pub room : sum_by (slice_index (at_phase z.takes j.phase)) ((wiring s n).ins j.actor) ≤ vec_capacity j.taken
    pub long : puts_of s (node n j.actor) j.phase ≤ length j.put.items
    pub can : CanStep s inputs (node n j.actor) j.state
        (sum_by (slice_index (at_phase z.takes j.phase)) ((wiring s n).ins j.actor))
        (puts_of s (node n j.actor) j.phase)

  -- job k is job j after its firing: it has the node's output for its block, and the node's state after it
  pub record HasFired (j k : RowFiring A T S) : Type 0 where
    pub actor_kept : k.actor ≡ j.actor
    pub phase_kept : k.phase ≡ j.phase
    pub room_kept : vec_capacity k.taken ≡ vec_capacity j.taken
    pub long_kept : length k.put.items ≡ length j.put.items
    pub at : (many : ℕ) (past : List (List T)) → IsAt s inputs many (node n j.actor) past j.state →
        IsAt s inputs many (node n j.actor) (past ++ block_of j ∷ []) k.state
    pub put : (many : ℕ) (past : List (List T)) → IsAt s inputs many (node n j.actor) past j.state →
        take (puts_of s (node n j.actor) j.phase) k.put.items ≡ answer_of s inputs (node n j.actor) past (block_of j)

  -- each job of jobs' is the job of jobs at its place after its firing
  abbrev pub HaveFired : List (RowFiring A T S) → List (RowFiring A T S) → Type 0
  HaveFired jobs jobs' = (i : ℕ) (j : RowFiring A T S) → i < length jobs →
      HasFired (slice_index_or jobs i j) (slice_index_or jobs' i j)
