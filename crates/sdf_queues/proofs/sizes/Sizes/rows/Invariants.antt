use Rattle.std.proofs.Common.{◌≡◌, ◌<◌, ℕ, map, slice_index, vec_len}
use Rattle.sdf_actor.specs.Sides.{channels_at}
use Rattle.sdf_actor.specs.Wires.{lists}
use Rattle.sdf_queues.specs.Sizes.{at_phase, rows_on}
use Rattle.sdf_queues.proofs.sizes.Sizes.rows.Given as goal

abbrev pub invariant-loop-phase : goal.invariant-loop-phase
invariant-loop-phase g l = record {
  len : vec_len l.rows ≡ l.phase;
  each : (blocking : ℕ) → blocking < l.phase → at_phase (lists l.rows.items) blocking ≡
      map (slice_index (at_phase (rows_on l.side l.self) blocking)) (channels_at g.A.Actor.steps l.net l.side l.a);
}
