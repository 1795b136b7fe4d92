use Rattle.std.proofs.Common.{◌<◌, ◌^◌, ℕ, List, subst, arith, ◌∙◌}
use Rattle.std.proofs.lemmas.List.{length-map}
use Rattle.sdf_actor.specs.Graphs.{channel_of}
use Rattle.sdf_kit.specs.Kit.{kit_steps}
use Rattle.sdf_options.specs.declared.options.Options.{Options}
use Rattle.sdf_analyze.specs.Figures.{AreFiguresOf}
use Rattle.sdf_draw.specs.Layouts.{IsLayout}
use Rattle.sdf_draw.proofs.Drawable.{drawable}
use Rattle.sdf_draw.proofs.page.drawing_of.Goals as goal

pub returns : goal.returns
returns c =
    let fits : c.in_ok-figures.figures.makespan < 2 ^ 64 = omega (arith, c.makespan.ensures) in
    let figures = subst (λ (o : Options). AreFiguresOf c.args.design.now o.blocking o.workers
    c.in_ok-period.field-0.period c.in_ok-period.field-0.block.table c.in_ok-figures.figures)
    c.with_blocking-placed.ensures c.in_ok-figures.ensures in
    record {
      periods = c.in_ok-period.field-0.block.blocking;
      design_schedule = c.in_ok-period.ensures.answers;
      figures = figures;
      layout = subst (λ (w : List ℕ). IsLayout c.args.design.now w c.in_ok-layout.layout.places.items
          c.in_ok-layout.layout.above c.in_ok-layout.layout.below c.in_ok-layout.layout.routes.items) c.order.ensures
          c.in_ok-layout.ensures.is;
      drawable = drawable c.args.design.now c.in_ok-period.field-0.block.blocking c.args.options.now.workers
          c.in_ok-period.field-0.period c.in_ok-period.field-0.block.table c.in_ok-figures.figures c.net.ensures.whole
          c.in_ok-period.ensures.table figures fits;
      capacities = c.in_ok-period.ensures.table.exact.caps_all
          ∙ length-map c.args.design.now.net.wires (channel_of kit_steps c.args.design.now.net.nodes);
      fire = c.in_ok-period.ensures.answers.by_policy.period.least.is.all;
    }
