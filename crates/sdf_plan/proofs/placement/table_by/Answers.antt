use Rattle.std.proofs.Common.{ap, ◌∙◌}
use Rattle.sdf_actor.specs.Graphs.{graph_of}
use Rattle.sdf_kit.specs.Kit.{kit_steps}
use Rattle.sdf_plan.proofs.Placing.{table_in_order, table_in_runs}
use Rattle.sdf_plan.proofs.placement.table_by.Goals as goal

pub returns-in-Runs : goal.returns-in-Runs
returns-in-Runs c =
    table_in_runs c.args.design.now c.args.options.now c.args.period.now c.args.blocking c.in-File.is
    c.graph-graph.result.now c.homes.result.now
    (c.graph-graph.ensures.value ∙ ap (graph_of kit_steps) c.net.ensures.value) c.homes.ensures
    c.by_homes_in_runs.result c.in-Runs.is c.by_homes_in_runs.ensures

pub returns-in-Round : goal.returns-in-Round
returns-in-Round c =
    table_in_order c.args.design.now c.args.options.now c.args.period.now c.args.blocking c.in-File.is
    c.graph-graph.result.now c.homes-in-Round.result.now
    (c.graph-graph.ensures.value ∙ ap (graph_of kit_steps) c.net.ensures.value) c.homes-in-Round.ensures
    c.by_homes.result c.in-Round.is c.by_homes.ensures
