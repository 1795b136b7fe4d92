use Rattle.std.proofs.Common.{◌≡◌, ℕ, ◌+◌, ◌*◌, List, ap, ◌∙◌, subst}
use Rattle.sdf_graph.specs.Rates.{rates}
use Rattle.sdf_actor.specs.Graphs.{graph_of}
use Rattle.sdf_kit.specs.Kit.{kit_steps}
use Rattle.sdf_draw.specs.Depths.{AreDepths}
use Rattle.sdf_draw.specs.Layouts.{ArePlaces, AreRoutes}
use Rattle.sdf_draw.proofs.Apart.{apart}
use Rattle.sdf_draw.proofs.layout.layout_of.Goals as goal

pub returns-clause-is : goal.returns-clause-is
returns-clause-is c =
    let graph : c.graph-graph.result.now ≡ graph_of kit_steps c.args.design.now.net =
    c.graph-graph.ensures.value ∙ ap (graph_of kit_steps) c.net.ensures.value in
    let boxes : ArePlaces c.args.design.now c.in_ok-depths.depths.items (60 + 10 * c.in_ok-routes.lanes.above + 26)
    c.in_ok-places.places.items =
    subst (λ (ds : List ℕ). ArePlaces c.args.design.now ds (60 + 10 * c.in_ok-routes.lanes.above + 26)
    c.in_ok-places.places.items) c.as_slice-2.ensures.value
    (subst (λ (n : ℕ). ArePlaces c.args.design.now c.as_slice-2.result.now (60 + 10 * n + 26)
    c.in_ok-places.places.items) c.from.ensures c.in_ok-places.ensures) in
    record {
      depths = c.in_ok-depths.depths.items;
      are = subst (λ g. AreDepths (rates g) c.args.order.now c.in_ok-depths.depths.items) graph c.in_ok-depths.ensures;
      boxes = boxes;
      apart = apart c.args.design.now c.in_ok-depths.depths.items (60 + 10 * c.in_ok-routes.lanes.above + 26)
          c.in_ok-places.places.items boxes;
      arrows = subst (λ (ds : List ℕ). AreRoutes c.args.design.now ds c.in_ok-routes.lanes.above
          c.in_ok-routes.lanes.below c.in_ok-routes.routes.items) c.as_slice.ensures.value c.in_ok-routes.ensures.is;
    }
