use Rattle.std.proofs.Common.{◌≡◌, ◌<◌, ℕ, length, slice_index}
use Rattle.sdf_queues.specs.Sizes.{at_phase, rows_on}
use Rattle.sdf_one.specs.Cycles.{IsInTurn}
use Rattle.sdf_one.proofs.cycles.is_in_turn.Given as goal

abbrev pub invariant-loop-phase : goal.invariant-loop-phase
invariant-loop-phase l = record {
  turn : IsInTurn l.ports (rows_on l.side l.sizes) l.phase;
  still : (m p : ℕ) → m < l.phase → l.last < p → p < length l.ports →
      slice_index (at_phase (rows_on l.side l.sizes) m) (slice_index l.ports p) ≡ 0;
}
