use Rattle.std.proofs.Common.{ap, map, ◌∙◌}
use Rattle.sdf_plan.specs.Plans.{progress_view, progress_of}
use Rattle.sdf_plan.proofs.Lists.{mapped_more}
use Rattle.sdf_plan.proofs.planning.progress.Goals as goal

pub loop-actor-preserved : goal.loop-actor-preserved
loop-actor-preserved c =
    ap (map progress_view) c.in_ok-push.ensures.items
    ∙ mapped_more progress_view (progress_of c.args.design.now c.args.repetitions.now c.args.stuck.now)
    c.loop-actor.actor c.loop-actor.all.items c.in_ok-progress_at.field-0
    c.loop-actor.invariant c.in_ok-progress_at.ensures
