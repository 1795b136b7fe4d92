use Rattle.sdf_prec.specs.Seen.{IsMarking}
use Rattle.sdf_prec.proofs.accept.cells.mark_row.Given as goal

abbrev pub invariant-loop-j : goal.invariant-loop-j
invariant-loop-j l = IsMarking l.initial.marks l.initial.order.items l.row l.mark l.j l.marks l.order.items
