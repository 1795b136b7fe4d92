use Rattle.std.proofs.Common.{◌≡◌, length}
use Rattle.sdf_prec.specs.Homes.{AreHomeColumns}
use Rattle.sdf_prec.proofs.table.homes.homes.Given as goal

abbrev pub invariant-loop-i : goal.invariant-loop-i
invariant-loop-i l = record {
  all : length l.home_columns.items ≡ l.fn.actors;
  are : AreHomeColumns l.rows.rows l.i 0 l.home_columns.items;
}
