use Rattle.std.proofs.Common.{◌≡◌, ℕ, ◌*◌, ◌^◌, ◌<◌, ◌≤◌}
use Rattle.std.specs.Prelude.{slice_index}
use Rattle.sdf_limits.specs.declared.TheConstants.{MAX_COST}
use Rattle.sdf_prec.specs.Blocks.{block}
use Rattle.sdf_times.specs.Checks.{plan_of}
use Rattle.sdf_times.specs.Rounds.{IsStep, before_step, step_at, blocks_to, time_to}
use Rattle.sdf_times.proofs.round.is_round.Given as goal

abbrev pub invariant-loop-i : goal.invariant-loop-i
invariant-loop-i l = record {
  before : l.before ≡ before_step l.steps l.i;
  time : l.time ≡ time_to (slice_index l.costs) l.steps l.i;
  blocks : l.blocks ≡ blocks_to l.steps l.i;
  time_small : l.time ≤ MAX_COST * l.i;
  blocks_small : l.blocks ≤ 2 ^ 32 * l.i;
  each : (k : ℕ) → k < l.i → IsStep (plan_of l.graph (block l.j l.reps) l.table l.costs) (before_step l.steps k)
      (step_at l.steps k);
}
