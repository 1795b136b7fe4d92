use Rattle.std.proofs.Common.{◌≡◌}
use Rattle.std.specs.Prelude.{map}
use Rattle.sdf_prec.specs.Seen.{AreMarked}
use Rattle.sdf_prec.proofs.accept.cells.mark_rows.Given as goal

abbrev pub invariant-loop-i : goal.invariant-loop-i
invariant-loop-i l = record {
  same : l.marks.firings ≡ l.initial.marks.firings;
  marked : AreMarked l.width (map (λ r. r.items) l.rows) l.i l.marks l.order.items;
}
