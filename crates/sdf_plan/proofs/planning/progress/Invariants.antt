use Rattle.std.proofs.Common.{◌≡◌, map}
use Rattle.std.specs.List.{range_with_len}
use Rattle.sdf_plan.specs.Plans.{progress_view, progress_of}
use Rattle.sdf_plan.proofs.planning.progress.Given as goal

abbrev pub invariant-loop-actor : goal.invariant-loop-actor
invariant-loop-actor l = map progress_view l.all.items ≡
    map (progress_of l.design l.repetitions l.stuck) (range_with_len 0 l.actor)
