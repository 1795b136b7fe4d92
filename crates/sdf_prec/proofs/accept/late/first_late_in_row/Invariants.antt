use Rattle.std.proofs.Common.{take}
use Rattle.sdf_graph.specs.Rates.{rates}
use Rattle.sdf_prec.specs.declared.firing.Firing.{Firing}
use Rattle.sdf_prec.specs.Tables.{firings, Stands}
use Rattle.sdf_prec.specs.Refusals.{IsInTime}
use Rattle.sdf_prec.specs.Seen.{IsMarkedBy}
use Rattle.sdf_prec.proofs.accept.late.first_late_in_row.Given as goal

abbrev pub invariant-loop-cell : goal.invariant-loop-cell
invariant-loop-cell l = (h : Firing) → Stands (firings (take l.cell-index l.cells)) h →
    IsInTime (rates l.graph) (IsMarkedBy l.marks l.row) h
