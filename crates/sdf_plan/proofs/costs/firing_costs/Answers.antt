use Rattle.std.proofs.Common.{◌≡◌, ◌∙◌, length, ap}
use Rattle.sdf_graph.specs.Rates.{GraphValue}
use Rattle.sdf_actor.specs.Graphs.{graph_of}
use Rattle.sdf_kit.specs.Kit.{kit_steps}
use Rattle.sdf_plan.proofs.Priced.{accepted}
use Rattle.sdf_plan.proofs.costs.firing_costs.Goals as goal

pub returns : goal.returns
returns c =
    let graph : c.graph.result.now ≡ graph_of kit_steps c.args.design.now.net =
    c.graph.ensures.value ∙ ap (graph_of kit_steps) c.net.ensures.value in
    let actors : c.graph.result.now.actors ≡ length c.args.design.now.net.nodes =
    ap (λ (g : GraphValue). g.actors) graph in
    accepted c.graph.result.now.actors (length c.args.design.now.net.nodes) c.in_ok-costs.costs.items
    c.args.design.now.costs c.new.result actors (c.in_ok-costs.ensures.items ∙ c.costs.ensures)
    c.net.ensures.whole.priced c.new.ensures
