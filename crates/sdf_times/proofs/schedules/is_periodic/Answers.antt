use Rattle.std.proofs.Common.{refl}
use Rattle.sdf_times.specs.Checks.{IsTried}
use Rattle.sdf_times.proofs.InTime.{in_time_exactly}
use Rattle.sdf_times.proofs.schedules.is_periodic.Goals as goal

pub returns-then-is_full : goal.returns-then-is_full
returns-then-is_full c =
    let tried : IsTried c.args.graph.now c.args.table.now c.args.costs.now c.args.starts.now = record {
      reps = c.args.reps.now;
      periods = c.args.j;
      width = c.requires.run.0;
      run = c.requires.run.1;
      full = c.if-is_full.ensures.0 refl;
    } in
    let exactly = in_time_exactly c.args.graph.now c.channels.ensures.shape c.args.table.now c.args.costs.now
    c.args.starts.now tried c.args.t c.args.q in (
      λ h. (c.if-is_full.ensures.0 refl, exactly.0 (c.schedule_in_time.ensures.0 h)),
      λ h. c.schedule_in_time.ensures.1 (exactly.1 h.1),
    )
