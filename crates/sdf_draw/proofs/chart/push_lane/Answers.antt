use Rattle.std.proofs.Common.{ℕ, List, sym, subst}
use Rattle.sdf_draw.specs.Bars.{IsDrawable}
use Rattle.sdf_draw.proofs.chart.push_lane.Goals as goal

pub bars_in-requires-clause-each : goal.bars_in-requires-clause-each
bars_in-requires-clause-each c = λ i f e.
    subst (λ (cs : List ℕ). IsDrawable cs c.args.figures.now.starts f) (sym c.costs.ensures)
    (c.requires.each f (i, c.args.worker, e))
