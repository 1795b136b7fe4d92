use Rattle.std.proofs.Common.{◌≡◌, map, take}
use Rattle.sdf_prec.specs.Tidied.{tidy_rows}
use Rattle.sdf_prec.proofs.table.tidy.tidy_rows.Given as goal

abbrev pub invariant-loop-row : goal.invariant-loop-row
invariant-loop-row l = record {
  wide : l.kept.width ≡ l.width;
  rows : l.kept.rows ≡ tidy_rows l.width (take l.row-index (map (λ r. r.items) l.rows));
}
