use Rattle.std.proofs.Common.{◌∙◌, subst, sym}
use Rattle.sdf_prec.specs.Numbers.{InBlock}
use Rattle.sdf_times.specs.Searches.{SweepValue}
use Rattle.sdf_times.proofs.search.sweep.Sweep.relax_row.Goals as goal

pub relax_firing-delayed-requires-clause-firing : goal.relax_firing-delayed-requires-clause-firing
relax_firing-delayed-requires-clause-firing c =
    subst (λ (v : SweepValue). InBlock v.events.firings c.in-Some.firing) (sym c.loop-column.invariant)
    (c.requires.cells c.args.i c.loop-column.column c.in-Some.firing (sym c.cell_of.ensures ∙ c.in-Some.is))
