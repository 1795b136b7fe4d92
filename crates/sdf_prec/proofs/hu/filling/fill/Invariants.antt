use Rattle.std.proofs.Common.{◌≤◌}
use Rattle.sdf_prec.specs.Floor.{IsFilling}
use Rattle.sdf_prec.proofs.hu.filling.fill.Given as goal

abbrev pub invariant-loop-end : goal.invariant-loop-end
invariant-loop-end l = record {
  filling : IsFilling l.until l.now l.end-index l.queue l.next l.cells.items;
  few : l.next ≤ l.end-index;
}
