use Rattle.std.proofs.Common.{ℕ, ◌++◌, ◌<◌, length, map, take, sym, ap, ◌∙◌, arith}
use Rattle.std.proofs.lemmas.List.{map-append}
use Rattle.sdf_prec.specs.declared.firing.Firing.{Firing}
use Rattle.sdf_prec.specs.Tables.{firings, order, row}
use Rattle.sdf_prec.proofs.RowMarks.{row_order}
use Rattle.sdf_prec.proofs.table.sequence.sequence.Goals as goal

pub loop-i-preserved : goal.loop-i-preserved
loop-i-preserved c =
    let rs = c.args.rows.now.rows in
    let i : ℕ = c.loop-i.i in
    let k : i < length rs = omega (arith, c.loop-i-test.true) in
    c.in_ok-push_row.ensures ∙
    (ap (λ xs. xs ++ map (λ (f : Firing). f.actor) (firings c.row.result.now)) c.loop-i.invariant ∙
    (ap (λ r. map (λ (f : Firing). f.actor) (order (take i rs)) ++ map (λ (f : Firing). f.actor) (firings r))
    c.row.ensures ∙
    sym (ap (map (λ (f : Firing). f.actor)) (row_order rs i k)
    ∙ map-append (λ (f : Firing). f.actor) (order (take i rs)) (firings (row rs i)))))
