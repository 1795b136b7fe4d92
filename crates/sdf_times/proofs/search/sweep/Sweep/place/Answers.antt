use Rattle.std.proofs.Common.{◌≡◌, ℕ, subst, sym, Some}
use Rattle.sdf_prec.specs.Numbers.{InBlock}
use Rattle.sdf_prec.specs.Tables.{cell}
use Rattle.sdf_prec.specs.declared.firing.Firing.{Firing}
use Rattle.sdf_times.specs.Searches.{SweepValue}
use Rattle.sdf_times.proofs.search.sweep.Sweep.place.Goals as goal

pub place_row-requires-clause-cells : goal.place_row-requires-clause-cells
place_row-requires-clause-cells c =
    subst (λ (v : SweepValue). (k j : ℕ) (f : Firing) → cell c.args.table.now.rows k j ≡ Some f →
    InBlock v.events.firings f) (sym c.loop-i.invariant) c.requires.cells
