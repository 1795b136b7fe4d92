use Rattle.std.proofs.Common.{subst}
use Rattle.sdf_graph.specs.Rates.{rates, IsShape}
use Rattle.sdf_graph.specs.Periods.{IsLeastPeriod}
use Rattle.sdf_actor.specs.Graphs.{graph_of}
use Rattle.sdf_actor.proofs.Theorems.{accepted_is_lawful}
use Rattle.sdf_kit.specs.Kit.{kit_steps}
use Rattle.sdf_plan.proofs.Deadlocks.{live_or_not, decides_of}
use Rattle.sdf_plan.proofs.Suiting.{suits_of}
use Rattle.sdf_plan.proofs.planning.plan.Goals as goal

pub returns-clause-suits : goal.returns-clause-suits
returns-clause-suits c = suits_of c.args.design.now c.args.options.now c.make_plan.result c.make_plan.ensures

pub returns-clause-decides : goal.returns-clause-decides
returns-clause-decides c passed =
    let least = subst (λ n. IsLeastPeriod (rates (graph_of kit_steps n)) c.repetitions.result.now)
    c.net.ensures.value c.repetitions.ensures.least in
    let accepted = c.repetitions.ensures.accepted in
    let lawful = accepted_is_lawful kit_steps c.net.result.now c.repetitions.result.now accepted in
    let shape = subst (λ n. IsShape (graph_of kit_steps n)) c.net.ensures.value lawful.graph in
    decides_of c.args.design.now c.args.options.now c.make_plan.result passed c.make_plan.ensures
    (live_or_not c.args.design.now c.repetitions.result.now least shape)
