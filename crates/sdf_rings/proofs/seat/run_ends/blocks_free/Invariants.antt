use Rattle.std.proofs.Common.{slice_index, ◌*◌, ◌≤◌, ◌<◌, ℕ, slice_index_or}
use Rattle.rtrb.specs.Ring.{known_free}
use Rattle.sdf_rings.proofs.seat.run_ends.blocks_free.Given as goal

abbrev pub invariant-loop-i : goal.invariant-loop-i
invariant-loop-i g l = record {
  within : l.many ≤ l.most;
  each : (k : ℕ) (d : _) → k < l.i → l.many * slice_index l.sizes k ≤ known_free (slice_index_or l.ends k d);
}
