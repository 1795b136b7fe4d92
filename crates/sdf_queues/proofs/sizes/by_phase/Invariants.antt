use Rattle.std.proofs.Common.{◌≡◌, ◌<◌, ℕ, map, vec_len}
use Rattle.sdf_graph.specs.Rates.{rate_at}
use Rattle.sdf_actor.specs.Wires.{lists}
use Rattle.sdf_queues.specs.Sizes.{rates_on, at_phase}
use Rattle.sdf_queues.proofs.sizes.by_phase.Given as goal

abbrev pub invariant-loop-phase : goal.invariant-loop-phase
invariant-loop-phase l = record {
  len : vec_len l.rows ≡ l.phase;
  each : (blocking : ℕ) → blocking < l.phase → at_phase (lists l.rows.items) blocking ≡
      map (λ e. rate_at (rates_on l.side e) blocking) l.channels;
}
