use Rattle.std.proofs.Common.{◌≡◌, ℕ, ◌++◌, ◌∷◌, [], ◌-◌, ◌≤◌, ◌<◌, List, length, map, take, replicate}
use Rattle.std.proofs.Common.{Option, None, refl, sym, ap, ◌∙◌, subst, arith}
use Rattle.std.specs.Prelude.{IsTrue, vec_len}
use Rattle.std.proofs.lemmas.List.{take_all}
use Rattle.sdf_prec.specs.declared.firing.Firing.{Firing}
use Rattle.sdf_prec.specs.Tables.{firings, row}
use Rattle.sdf_prec.specs.Tidied.{filled}
use Rattle.sdf_prec.proofs.RowMarks.{cells_read}
use Rattle.sdf_prec.proofs.RowsIn.{some_cells}
use Rattle.sdf_prec.proofs.Keeping.{tidied_some, tidied_none, not_some}
use Rattle.sdf_prec.proofs.table.tidy.tidy_rows.Goals.{then-has_firing+in_ok-extend_from_slice+in_ok-resize+in_ok-push}
use Rattle.sdf_prec.proofs.table.tidy.tidy_rows.Goals.{else-has_firing}
use Rattle.sdf_prec.proofs.table.tidy.tidy_rows.Goals as goal

pub push-requires-clause-some : goal.push-requires-clause-some
push-requires-clause-some c =
    let rs : List (List (Option Firing)) = map (λ r. r.items) c.args.rows.now in
    let i : ℕ = c.loop-row.row-index in
    let l : i < length c.args.rows.now = omega (arith, c.loop-row-test.true) in
    let cells = (cells_read c.args.rows.now i c.row-item.result c.deref.result.now l c.row-item.is
    c.deref.ensures.value).0 in
    let some : 0 < length (row rs i) = some_cells (row rs i)
    (subst (λ r. 0 < length (firings r)) cells (c.has_firing.ensures.0 c.if-has_firing.true)) in
    omega (
      arith,
      c.deref-then-has_firing-2.ensures.len,
      c.in_ok-resize.ensures.len,
      c.requires i l,
      some,
    )

pub loop-row-preserved : goal.loop-row-preserved
loop-row-preserved c =
    let rs : List (List (Option Firing)) = map (λ r. r.items) c.args.rows.now in
    let i : ℕ = c.loop-row.row-index in
    let l : i < length c.args.rows.now = omega (arith, c.loop-row-test.true) in
    let here = cells_read c.args.rows.now i c.row-item.result c.row-item.result.items l c.row-item.is refl in
    let cells : c.deref.result.now ≡ row rs i = c.deref.ensures.value ∙ here.0 in
    elim c.if-has_firing.branch [
      | then-has_firing+in_ok-extend_from_slice+in_ok-resize+in_ok-push w ↦
          let some : 0 < length (firings (row rs i)) =
          subst (λ r. 0 < length (firings r)) cells (c.has_firing.ensures.0 w.if-has_firing.true) in
          let read : w.deref-then-has_firing.result.now ≡ row rs i = w.deref-then-has_firing.ensures.value ∙ here.0 in
          let copied : w.extend_from_slice.new.self.items ≡ row rs i =
          w.in_ok-extend_from_slice.ensures.items ∙ (λ n. w.clear.ensures.items n ++ read n) in
          let long : vec_len w.extend_from_slice.new.self ≡ length (row rs i) = omega (
            arith,
            w.in_ok-extend_from_slice.ensures.len,
            w.clear.ensures.len,
            ap length read,
          ) in
          let fits : length (row rs i) ≤ c.args.width = c.requires i l in
          let full : w.deref-then-has_firing-2.result.now ≡ filled c.args.width (row rs i) =
          w.deref-then-has_firing-2.ensures.value ∙ (w.in_ok-resize.ensures.items
          ∙ ((λ n. take c.args.width (copied n) ++ replicate (c.args.width - long n) None) ∙
          ap (λ xs. xs ++ replicate (c.args.width - length (row rs i)) None)
          (take_all c.args.width (row rs i) fits))) in
          rw w.kept-is (record {
            wide = w.push.ensures.width ∙ c.loop-row.invariant.wide;
            rows = w.in_ok-push.ensures.rows ∙ ((λ n. c.loop-row.invariant.rows n ++ full n ∷ [])
                ∙ sym (tidied_some c.args.width rs i here.1 some));
          })
      | else-has_firing w ↦
          let none : length (firings (row rs i)) ≤ 0 =
          not_some c.has_firing.result (length (firings (row rs i))) w.if-has_firing.false
          (subst (λ r. 0 < length (firings r) → IsTrue c.has_firing.result) cells c.has_firing.ensures.1) in
          rw (w.kept-is) (record {
            wide = c.loop-row.invariant.wide;
            rows = c.loop-row.invariant.rows ∙ sym (tidied_none c.args.width rs i here.1 none);
          })
    ]
