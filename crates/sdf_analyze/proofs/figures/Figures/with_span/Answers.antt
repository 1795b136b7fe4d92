use Rattle.std.proofs.Common.{◌≡◌, ◌∙◌, ◌≤◌, ap, subst, sym, length, slice_index, arith}
use Rattle.sdf_actor.specs.Graphs.{graph_of}
use Rattle.sdf_actor.proofs.Theorems.{accepted_is_lawful}
use Rattle.sdf_kit.specs.Kit.{kit_steps}
use Rattle.sdf_prec.specs.Blocks.{block}
use Rattle.sdf_prec.specs.Costs.{AreCosts}
use Rattle.sdf_times.specs.Times.{work_of}
use Rattle.sdf_analyze.specs.Figures.{FiguresValue}
use Rattle.sdf_analyze.proofs.Works.{figures_of, work_small}
use Rattle.sdf_analyze.specs.declared.figures.TheConstants.{MAX_WORK}
use Rattle.sdf_analyze.proofs.figures.Figures.with_span.Goals as goal

pub work-work-requires-clause-few : goal.work-work-requires-clause-few
work-work-requires-clause-few c =
    let lawful = accepted_is_lawful kit_steps c.net.result.now c.graph-graph.ensures.accepted.0
    c.graph-graph.ensures.accepted.1 in
    let few : (graph_of kit_steps c.args.design.now.net).actors ≤ 64 =
    subst (λ n. (graph_of kit_steps n).actors ≤ 64) c.net.ensures.value lawful.graph.few in
    rw c.repetitions.ensures (rw c.requires.period.least.is.all few)

pub invariant_of-result : goal.invariant_of-result
invariant_of-result c =
    let lawful = accepted_is_lawful kit_steps c.net.result.now c.graph-graph.ensures.accepted.0
    c.graph-graph.ensures.accepted.1 in
    let few : (graph_of kit_steps c.args.design.now.net).actors ≤ 64 =
    subst (λ n. (graph_of kit_steps n).actors ≤ 64) c.net.ensures.value lawful.graph.few in
    let actors : length c.args.period.now.repetitions ≡ (graph_of kit_steps c.args.design.now.net).actors =
    c.requires.period.least.is.all in
    let few_reps : length c.args.period.now.repetitions ≤ 64 = rw actors few in
    let within : length c.args.period.now.repetitions ≤ length c.args.design.now.net.nodes = omega (arith, actors) in
    let priced : AreCosts (length c.args.design.now.net.nodes) c.args.design.now.costs =
    record { all = c.net.ensures.whole.priced.all; each = c.net.ensures.whole.priced.each } in
    let small = work_small c.args.options.now.blocking c.args.period.now.repetitions c.args.design.now.costs
    (length c.args.design.now.net.nodes) (length c.args.period.now.repetitions) c.requires.short
    priced within in
    let work = c.work-work.ensures
    ∙ (ap (λ reps. work_of (length reps) (slice_index (block c.args.options.now.blocking reps))
    (slice_index c.in_ok-costs.costs)) c.repetitions.ensures
    ∙ ap (λ costs. work_of (length c.args.period.now.repetitions) (slice_index (block c.args.options.now.blocking
    c.args.period.now.repetitions)) (slice_index costs)) c.in_ok-costs.ensures) in
    let bound : c.work-work.result ≤ MAX_WORK = omega (arith, work, small, few_reps) in
    bound

pub returns : goal.returns
returns c =
    let graph : c.graph-graph.result.now ≡ graph_of kit_steps c.args.design.now.net =
    c.graph-graph.ensures.value ∙ ap (graph_of kit_steps) c.net.ensures.value in
    let actors : length c.repetitions.result.now ≡ c.graph-graph.result.now.actors =
    ap length c.repetitions.ensures ∙ (c.requires.period.least.is.all ∙ ap (λ g. g.actors) (sym graph)) in
    let figures : FiguresValue = record {
      starts = c.in_ok-times.times.starts;
      makespan = c.in_ok-times.times.makespan;
      work = c.work-work.result;
      span = c.args.span;
      bound = c.bound.result;
      loads = c.in_ok-times.times.loads;
      held = c.held.result;
    } in
    figures_of c.graph-graph.result.now (graph_of kit_steps c.args.design.now.net) c.in_ok-costs.costs
    c.args.design.now.costs c.args.options.now.blocking c.args.options.now.workers c.args.period.now c.args.table.now
    figures graph c.in_ok-costs.ensures
    (record {
      starts = c.in_ok-times.ensures.starts;
      has = c.in_ok-times.ensures.has;
      makespan = c.in_ok-times.ensures.makespan;
      work = c.work-work.ensures ∙ (ap (λ n. work_of n (slice_index (block c.args.options.now.blocking
          c.repetitions.result.now)) (slice_index c.in_ok-costs.costs)) actors
          ∙ ap (λ reps. work_of c.graph-graph.result.now.actors (slice_index (block c.args.options.now.blocking reps))
          (slice_index c.in_ok-costs.costs)) c.repetitions.ensures);
      span = rw (graph, c.in_ok-costs.ensures) c.requires.span;
      bound = c.bound.ensures;
      columns = c.in_ok-times.ensures.columns;
      loads = c.in_ok-times.ensures.loads;
      held = c.held.ensures;
    })
