use Rattle.std.proofs.Common.{ap, map, subst, ◌∙◌}
use Rattle.sdf_graph.specs.Rates.{rates}
use Rattle.sdf_graph.specs.Periods.{IsLeastPeriod}
use Rattle.sdf_actor.specs.Graphs.{graph_of}
use Rattle.sdf_kit.specs.Kit.{kit_steps}
use Rattle.sdf_plan.specs.Plans.{progress_view}
use Rattle.sdf_plan.proofs.Deadlocks.{deadlock_of}
use Rattle.sdf_plan.proofs.planning.period_by.Goals as goal

pub returns-in_ok-actors-in-Err-Deadlock : goal.returns-in_ok-actors-in-Err-Deadlock
returns-in_ok-actors-in-Err-Deadlock c =
    deadlock_of c.args.design.now c.graph-graph.result.now c.repetitions-repetitions.result.now c.in-Err-Deadlock.stuck
    (map progress_view c.in_ok-actors-in-Err-Deadlock.actors.items)
    (c.graph-graph.ensures.value ∙ ap (graph_of kit_steps) c.net-net.ensures.value)
    (subst (λ n. IsLeastPeriod (rates (graph_of kit_steps n)) c.repetitions-repetitions.result.now)
    c.net-net.ensures.value c.repetitions-repetitions.ensures.least)
    (rw c.in-Err-Deadlock.field-0-is at c.in-Err-Deadlock.ensures) c.in_ok-actors-in-Err-Deadlock.ensures
