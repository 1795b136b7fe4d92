use Rattle.std.proofs.Common.{slice_index, ◌≡◌, ◌≤◌, ◌<◌, length, ℕ, [], slice_index_or}
use Rattle.rtrb.specs.Ring.{known_items}
use Rattle.sdf_rings.specs.Ends.{Drew}
use Rattle.sdf_rings.proofs.seat.ends.each_holds.Given as goal

abbrev pub invariant-loop-i : goal.invariant-loop-i
invariant-loop-i g l = record {
  done : (k : ℕ) (d : _) → k < l.i → Drew (slice_index_or l.initial.ends k d) (slice_index_or l.ends k d) []
      × ((slice_index l.sizes) k ≤ length (known_items (slice_index_or l.ends k d)));
  rest : (k : ℕ) (d : _) → l.i ≤ k → slice_index_or l.ends k d ≡ slice_index_or l.initial.ends k d;
}
