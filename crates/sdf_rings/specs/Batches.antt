-- Batched firings of one node: when they are possible.
use Rattle.std.specs.Prelude.{◌≡◌, ℕ, ◌+◌, ◌*◌, ◌≤◌, ◌<◌, length}
use Rattle.sdf_actor.specs.Steps.{Steps}
use Rattle.sdf_actor.specs.Nets.{Netlist, wire, node, cycle_of}
use Rattle.sdf_actor.specs.declared.sides.Side.TheVariants.{Input, Output}
use Rattle.sdf_node.specs.Nodes.{takes_of, puts_of}
use Rattle.sdf_queues.specs.Sizes.{sizes}
use Rattle.sdf_rings.specs.declared.seat.ring_node.RingNode.{RingNode}
use Rattle.sdf_rings.specs.Ends.{HoldsEach, HasRoomEach}

-- a node of one phase without a channel to itself
pub record CanBatch {A S T : Type 0} (s : Steps A S T) (n : Netlist A T) (a : ℕ) : Type 0 where
  pub one_phase : cycle_of s (node n a) ≡ 1
  pub apart : (c : ℕ) → c < length n.wires → (wire n c).from.0 ≡ a → (wire n c).to.0 ≡ a → ⊥

-- this number of firings is left of it, and its working blocks hold them. The samples and the room for all of them are
-- known at its ends
pub record CanRun {A S T : Type 0} (s : Steps A S T) (n : Netlist A T) (x : RingNode A T S) (many : ℕ) : Type 0 where
  pub goes : CanBatch s n x.actor
  pub left : x.done + many ≤ x.asked
  pub holds : HoldsEach (λ i. many * sizes s Input (node n x.actor) x.done i) x.ins.items
  pub has_room : HasRoomEach (λ i. many * sizes s Output (node n x.actor) x.done i) x.outs.items
  pub taken_fits : takes_of s (node n x.actor) 0 * many ≤ length x.taken.items
  pub put_fits : puts_of s (node n x.actor) 0 * many ≤ length x.put.items
