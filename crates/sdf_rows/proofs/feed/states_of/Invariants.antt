use Rattle.std.proofs.Common.{◌≡◌, ◌<◌, ℕ, length, None, slice_index_or}
use Rattle.sdf_actor.specs.Nets.{node}
use Rattle.sdf_node.specs.Kept.{kept_state}
use Rattle.sdf_rows.proofs.feed.states_of.Given as goal

abbrev pub invariant-loop-a : goal.invariant-loop-a
invariant-loop-a g l = record {
  all : length l.copies.items ≡ l.a;
  each : (b : ℕ) (d : _) → b < l.a → slice_index_or l.copies.items b None ≡
      kept_state (node l.net b) (slice_index_or l.states b d);
}
