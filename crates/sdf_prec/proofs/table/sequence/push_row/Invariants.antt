use Rattle.std.proofs.Common.{◌≡◌, ◌++◌, map, take}
use Rattle.sdf_prec.specs.Tables.{firings}
use Rattle.sdf_prec.proofs.table.sequence.push_row.Given as goal

abbrev pub invariant-loop-cell : goal.invariant-loop-cell
invariant-loop-cell l = l.order.items ≡ l.initial.order.items ++ map (λ f. f.actor) (firings (take l.cell-index l.row))
