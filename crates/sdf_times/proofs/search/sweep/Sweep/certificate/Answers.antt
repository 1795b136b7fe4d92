use Rattle.std.proofs.Common.{◌≡◌, ◌∙◌, ℕ, subst, sym, Some}
use Rattle.sdf_prec.specs.Numbers.{InBlock}
use Rattle.sdf_prec.specs.Tables.{cell}
use Rattle.sdf_prec.specs.declared.firing.Firing.{Firing}
use Rattle.sdf_times.specs.Searches.{SweepValue}
use Rattle.sdf_times.proofs.search.sweep.Sweep.certificate.Goals as goal

pub run-requires-clause-cells : goal.run-requires-clause-cells
run-requires-clause-cells c =
    subst (λ (v : SweepValue). (k j : ℕ) (f : Firing) → cell c.args.table.now.rows k j ≡ Some f →
    InBlock v.events.firings f) (sym (c.loop.invariant.0 ∙ c.begin.ensures)) c.requires.cells
