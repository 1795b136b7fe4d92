use Rattle.std.proofs.Common.{slice_index, ◌≡◌, ◌≤◌, ◌<◌, ℕ, [], slice_index_or}
use Rattle.rtrb.specs.Ring.{known_free}
use Rattle.sdf_rings.specs.Ends.{Gave}
use Rattle.sdf_rings.proofs.seat.ends.each_has_room.Given as goal

abbrev pub invariant-loop-i : goal.invariant-loop-i
invariant-loop-i g l = record {
  done : (k : ℕ) (d : _) → k < l.i → Gave (slice_index_or l.initial.ends k d) (slice_index_or l.ends k d) []
      × ((slice_index l.sizes) k ≤ known_free (slice_index_or l.ends k d));
  rest : (k : ℕ) (d : _) → l.i ≤ k → slice_index_or l.ends k d ≡ slice_index_or l.initial.ends k d;
}
