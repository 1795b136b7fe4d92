use Rattle.std.proofs.Common.{◌≡◌, length}
use Rattle.sdf_prec.specs.Homes.{AreHomeColumns}
use Rattle.sdf_prec.proofs.table.homes.add_row_columns.Given as goal

abbrev pub invariant-loop-column : goal.invariant-loop-column
invariant-loop-column l = record {
  same : length l.home_columns ≡ length l.initial.home_columns;
  are : AreHomeColumns l.rows.rows l.i l.column l.home_columns;
}
