use Rattle.std.proofs.Common.{get_or, arith}
use Rattle.sdf_graph.specs.Rates.{rates}
use Rattle.sdf_graph.proofs.Theorems.{graphs_are_sound}
use Rattle.sdf_prec.specs.Refusals.{IsInTime}
use Rattle.sdf_prec.specs.Seen.{IsMarkedBy}
use Rattle.sdf_prec.proofs.RowCells.{stands_at, enough_of, more_some, more_none, whole}
use Rattle.sdf_prec.proofs.accept.late.first_late_in_row.Goals.{in-Some+in_default-first_late, in_default}
use Rattle.sdf_prec.proofs.accept.late.first_late_in_row.Goals as goal

pub first_late-requires-clause-known : goal.first_late-requires-clause-known
first_late-requires-clause-known c =
    omega (
      arith,
      (c.requires.known c.in-Some.firing
          (stands_at c.args.cells.now c.loop-cell.cell-index c.in-Some.firing c.in-Some.is)).0,
      c.requires.each,
    )

pub first_late-requires-clause-enough : goal.first_late-requires-clause-enough
first_late-requires-clause-enough c = λ d l e.
    enough_of (rates c.args.graph.now) (graphs_are_sound c.args.graph.now c.channels.ensures.shape)
    (λ a. get_or c.args.marks.now.firings a 0) d c.in-Some.firing.actor c.in-Some.firing.number _ e
    (c.requires.known c.in-Some.firing (stands_at c.args.cells.now c.loop-cell.cell-index c.in-Some.firing
    c.in-Some.is)).1 (c.requires.enough d l)

pub loop-cell-preserved : goal.loop-cell-preserved
loop-cell-preserved c = elim c.match-cell.branch [
  | in-Some+in_default-first_late w ↦
      more_some (IsInTime (rates c.args.graph.now) (IsMarkedBy c.args.marks.now c.args.row)) c.args.cells.now
      c.loop-cell.cell-index w.in-Some.firing c.loop-cell-test.true w.in-Some.is c.loop-cell.invariant
      w.in_default-first_late.ensures
  | in_default w ↦
      more_none (IsInTime (rates c.args.graph.now) (IsMarkedBy c.args.marks.now c.args.row)) c.args.cells.now
      c.loop-cell.cell-index c.loop-cell-test.true w.in_default.is c.loop-cell.invariant
]

pub returns : goal.returns
returns c = whole (IsInTime (rates c.args.graph.now) (IsMarkedBy c.args.marks.now c.args.row)) c.args.cells.now
    c.loop-cell.cell-index (omega (arith, c.loop-cell-test.false)) c.loop-cell.invariant
