use Rattle.std.proofs.Common.{◌≡◌, ℕ, ◌<◌, length, sym, subst, arith}
use Rattle.sdf_graph.specs.Rates.{rates}
use Rattle.sdf_graph.proofs.Theorems.{graphs_are_sound}
use Rattle.sdf_prec.specs.Tables.{row, firings, IsValid}
use Rattle.sdf_prec.proofs.Placing.{rows_valid, rows_wide, rows_some}
use Rattle.sdf_prec.proofs.by_homes.table_by_order.Goals as goal

pub rows_of-requires-clause-known : goal.rows_of-requires-clause-known
rows_of-requires-clause-known c = λ p l. omega (arith, (c.requires.pass.1.0 p l).0, c.actors.ensures.count)

pub of_rows-requires : goal.of_rows-requires
of_rows-requires c =
    let rs = c.in_ok-rows.rows.rows in (
      c.requires.pass.0,
      rows_valid (rates c.args.graph.now) c.requires.pass.0 c.args.order.now
          (graphs_are_sound c.args.graph.now c.actors.ensures.shape) c.requires.pass.1 c.args.homes.now
          c.args.m c.requires.homed rs c.in_ok-rows.ensures,
      c.requires.pass.2,
    )

pub returns-clause-table : goal.returns-clause-table
returns-clause-table c = λ n pass.
    let r = rates c.args.graph.now in
    let rs = c.in_ok-rows.rows.rows in
    let sound = graphs_are_sound c.args.graph.now c.actors.ensures.shape in
    let kept : rs ≡ c.in_ok-table.table.rows = sym c.in_ok-table.ensures.rows in
    record {
      valid = subst (IsValid r n) kept (rows_valid r n c.args.order.now sound pass c.args.homes.now
          c.args.m c.requires.homed rs c.in_ok-rows.ensures);
      wide = subst (λ rs. (i : ℕ) → i < length rs → length (row rs i) ≡ c.args.m) kept
          (rows_wide r n c.args.order.now sound pass c.args.homes.now c.args.m c.requires.homed rs
          c.in_ok-rows.ensures);
      some = subst (λ rs. (i : ℕ) → i < length rs → 0 < length (firings (row rs i))) kept
          (rows_some r n c.args.order.now sound pass c.args.homes.now c.args.m c.requires.homed rs
          c.in_ok-rows.ensures);
      exact = c.in_ok-table.ensures.exact;
    }
