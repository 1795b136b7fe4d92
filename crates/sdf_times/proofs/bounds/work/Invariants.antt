use Rattle.std.proofs.Common.{◌≡◌, ◌≤◌, ◌*◌}
use Rattle.std.specs.Prelude.{slice_index}
use Rattle.sdf_limits.specs.declared.TheConstants.{MAX_BLOCK, MAX_COST}
use Rattle.sdf_prec.specs.Blocks.{block}
use Rattle.sdf_times.specs.Times.{work_of}
use Rattle.sdf_times.proofs.bounds.work.Given as goal

abbrev pub invariant-loop-actor : goal.invariant-loop-actor
invariant-loop-actor l = record {
  work : l.work ≡ work_of l.actor (slice_index (block l.blocking l.reps)) (slice_index l.costs);
  small : l.work ≤ MAX_BLOCK * MAX_COST * l.actor;
}
