use Rattle.std.proofs.Common.{◌≡◌, ◌<◌, ◌≤◌, ℕ, [], length, slice_index_or}
use Rattle.sdf_actor.specs.Wires.{lists}
use Rattle.sdf_queues.proofs.inputs.are_inputs.Given as goal

abbrev pub invariant-loop-list : goal.invariant-loop-list
invariant-loop-list g l = record {
  even : (e : ℕ) → e < l.list-index → length (slice_index_or (lists l.inputs) e []) ≡
      length (slice_index_or (lists l.inputs) 0 []);
  enough : (e : ℕ) → e < l.list-index → l.least ≤ length (slice_index_or (lists l.inputs) e []);
}
