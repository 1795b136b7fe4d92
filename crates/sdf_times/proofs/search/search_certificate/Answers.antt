use Rattle.std.proofs.Common.{◌≡◌, ℕ, List, sym, subst, Some}
use Rattle.sdf_prec.specs.Numbers.{InBlock}
use Rattle.sdf_prec.specs.Tables.{cell}
use Rattle.sdf_prec.specs.declared.firing.Firing.{Firing}
use Rattle.sdf_times.proofs.Searching.{cells_known, costs_known, rows_few}
use Rattle.sdf_times.proofs.search.search_certificate.Goals as goal

pub loads-requires-clause-known : goal.loads-requires-clause-known
loads-requires-clause-known c =
    let r = c.requires.run in
    costs_known c.args.graph.now c.args.reps.now c.args.blocking r.0 c.args.table.now c.args.costs.now r.1

pub loads-requires-clause-short : goal.loads-requires-clause-short
loads-requires-clause-short c =
    let r = c.requires.run in
    rows_few c.args.graph.now c.args.reps.now c.args.blocking r.0 c.args.table.now c.args.costs.now r.1

pub certificate-requires-clause-cells : goal.certificate-requires-clause-cells
certificate-requires-clause-cells c =
    let r = c.requires.run in
    subst (λ (n : List ℕ). (i j : ℕ) (f : Firing) → cell c.args.table.now.rows i j ≡ Some f → InBlock n f)
    (sym c.in_ok-sweep.ensures.firings)
    (cells_known c.args.graph.now c.args.reps.now c.args.blocking r.0 c.args.table.now c.args.costs.now r.1)

pub of_column-requires-clause-known : goal.of_column-requires-clause-known
of_column-requires-clause-known c =
    let r = c.requires.run in
    costs_known c.args.graph.now c.args.reps.now c.args.blocking r.0 c.args.table.now c.args.costs.now r.1
