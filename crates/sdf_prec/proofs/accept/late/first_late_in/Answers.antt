use Rattle.std.proofs.Common.{ℕ, ◌<◌, length, get_or, take, None, refl, sym, ap, ◌∙◌, subst, arith}
use Rattle.sdf_graph.specs.Rates.{rates}
use Rattle.sdf_prec.specs.Tables.{firings, Stands}
use Rattle.sdf_prec.proofs.RowMarks.{cells_read, in_time_rows_more}
use Rattle.sdf_prec.proofs.accept.late.first_late_in.Goals as goal

pub first_late_in_row-requires-clause-known : goal.first_late_in_row-requires-clause-known
first_late_in_row-requires-clause-known c =
    let i : ℕ = c.loop-i.i in
    let l : i < length c.args.rows.now = omega (arith, c.loop-i-test.true) in
    let cells = (cells_read c.args.rows.now i c.index-rows-i.result c.deref.result.now l c.index-rows-i.is
    c.deref.ensures.value).0 in
    λ f st. c.requires.known i f l (subst (λ r. Stands (firings r) f) cells st)

pub returns-in-Some : goal.returns-in-Some
returns-in-Some c =
    let i : ℕ = c.loop-i.i in
    let l : i < length c.args.rows.now = omega (arith, c.loop-i-test.true) in
    let cells = (cells_read c.args.rows.now i c.index-rows-i.result c.deref.result.now l c.index-rows-i.is
    c.deref.ensures.value).0 in
    let found = c.in-Some.ensures in (
      i,
      c.in-Some.found.0,
      c.in-Some.found.1,
      refl,
      l,
      record {
        before = λ m h k st. c.loop-i.invariant m h k st;
        column = found.0;
        column_in = subst (λ r. found.0 < length r) cells found.1;
        is = ap (λ r. get_or r found.0 None) (sym cells) ∙ found.2;
        in_row = λ h st. found.3 h (subst (λ r. Stands (firings (take found.0 r)) h) (sym cells) st);
        first = found.4;
      },
    )

pub loop-i-preserved : goal.loop-i-preserved
loop-i-preserved c =
    let i : ℕ = c.loop-i.i in
    let l : i < length c.args.rows.now = omega (arith, c.loop-i-test.true) in
    let cells = (cells_read c.args.rows.now i c.index-rows-i.result c.deref.result.now l c.index-rows-i.is
    c.deref.ensures.value).0 in
    in_time_rows_more (rates c.args.graph.now) c.args.marks.now _ i c.loop-i.invariant
    (λ h st. c.in_default.ensures h (subst (λ r. Stands (firings r) h) (sym cells) st))
