use Rattle.std.proofs.Common.{◌++◌, ◌∷◌, [], map, take, ap, ◌∙◌, sym}
use Rattle.std.proofs.lemmas.List.{append_assoc, map_push}
use Rattle.sdf_prec.specs.declared.firing.Firing.{Firing}
use Rattle.sdf_prec.specs.Tables.{firings}
use Rattle.sdf_prec.proofs.Marks.{firings_some, firings_none}
use Rattle.sdf_prec.proofs.table.sequence.push_row.Goals.{in-Some+in_ok-push, in_default}
use Rattle.sdf_prec.proofs.table.sequence.push_row.Goals as goal

pub loop-cell-preserved : goal.loop-cell-preserved
loop-cell-preserved c = elim c.match-cell.branch [
  | in-Some+in_ok-push w ↦
      rw (w.order-is)
      (w.in_ok-push.ensures.items ∙
      (ap (λ xs. xs ++ w.in-Some.firing.actor ∷ []) c.loop-cell.invariant ∙
      (append_assoc c.args.order.now.items (map (λ (f : Firing). f.actor)
      (firings (take c.loop-cell.cell-index c.args.row.now))) (w.in-Some.firing.actor ∷ []) ∙
      ap (λ xs. c.args.order.now.items ++ xs)
      (sym (map_push (λ (f : Firing). f.actor) (firings (take c.loop-cell.cell-index c.args.row.now))
      w.in-Some.firing) ∙
      ap (map (λ (f : Firing). f.actor)) (sym (firings_some c.args.row.now c.loop-cell.cell-index w.in-Some.firing
      c.loop-cell-test.true w.in-Some.is))))))
  | in_default w ↦
      rw (w.order-is)
      (c.loop-cell.invariant ∙ ap (λ fs. c.args.order.now.items ++ map (λ (f : Firing). f.actor) fs)
      (sym (firings_none c.args.row.now c.loop-cell.cell-index c.loop-cell-test.true w.in_default.is)))
]
