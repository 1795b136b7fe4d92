use Rattle.std.proofs.Common.{◌≡◌, ◌≤◌, ◌<◌, ℕ, length, slice_index}
use Rattle.sdf_warm_up.specs.declared.warm_up.TheConstants.{MAX_FIRINGS}
use Rattle.sdf_actor.specs.Nets.{node}
use Rattle.sdf_warm_up.specs.Warm.{NodeForgets, IsLeast}
use Rattle.sdf_warm_up.proofs.warm_up.memories_of.Given as goal

abbrev pub invariant-loop-a : goal.invariant-loop-a
invariant-loop-a g l = record {
  all : length l.memories.items ≡ l.a;
  few : (i : ℕ) → i < l.a → slice_index l.memories.items i ≤ MAX_FIRINGS;
  each : (i : ℕ) → i < l.a → IsLeast (NodeForgets g.A.Actor.steps (node l.net i)) (slice_index l.memories.items i);
}
