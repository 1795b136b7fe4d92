use Rattle.std.proofs.Common.{◌≡◌, take}
use Rattle.sdf_prec.specs.Tables.{sequence}
use Rattle.sdf_prec.proofs.table.sequence.sequence.Given as goal

abbrev pub invariant-loop-i : goal.invariant-loop-i
invariant-loop-i l = l.order.items ≡ sequence (take l.i l.rows.rows)
