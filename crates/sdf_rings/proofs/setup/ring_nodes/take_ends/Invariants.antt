use Rattle.std.proofs.Common.{◌≡◌, ◌<◌, ℕ, Some, slice_index, slice_index_or, vec_len}
use Rattle.sdf_rings.specs.Openings.{end_at}
use Rattle.sdf_rings.proofs.setup.ring_nodes.take_ends.Given as goal

abbrev pub invariant-loop-channel : goal.invariant-loop-channel
invariant-loop-channel g l = record {
  len : vec_len l.taken ≡ l.channel-index;
  each : (i : ℕ) (d : _) → i < l.channel-index → end_at l.initial.ends.items (slice_index l.channels i) ≡
      Some (slice_index_or l.taken.items i d);
  others : (c : ℕ) → ((i : ℕ) → i < l.channel-index → slice_index l.channels i ≡ c → ⊥) →
      end_at l.ends.items c ≡ end_at l.initial.ends.items c;
}
