use Rattle.std.proofs.Common.{◌≡◌, ◌∙◌, ap}
use Rattle.sdf_actor.specs.Graphs.{graph_of}
use Rattle.sdf_kit.specs.Kit.{kit_steps}
use Rattle.sdf_analyze.proofs.Works.{span_of}
use Rattle.sdf_analyze.proofs.spans.block_span.Goals as goal

pub returns : goal.returns
returns c =
    let graph : c.graph-graph.result.now ≡ graph_of kit_steps c.args.design.now.net =
    c.graph-graph.ensures.value ∙ ap (graph_of kit_steps) c.net.ensures.value in
    span_of c.graph-graph.result.now (graph_of kit_steps c.args.design.now.net) c.in_ok-costs.costs
    c.args.design.now.costs c.args.blocking c.args.period.now c.span.result graph c.in_ok-costs.ensures
    c.requires.short c.span.ensures
