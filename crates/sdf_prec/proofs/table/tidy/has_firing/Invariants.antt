use Rattle.std.proofs.Common.{◌≡◌, length, take}
use Rattle.sdf_prec.specs.Tables.{firings}
use Rattle.sdf_prec.proofs.table.tidy.has_firing.Given as goal

abbrev pub invariant-loop-cell : goal.invariant-loop-cell
invariant-loop-cell l = length (firings (take l.cell-index l.row)) ≡ 0
