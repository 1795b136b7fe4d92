use Rattle.std.proofs.Common.{ℕ, ◌+◌, ◌<◌, ◌++◌, length, get_or, take, None, refl, sym, ap, ◌∙◌, subst, arith}
use Rattle.sdf_prec.specs.declared.firing.Firing.{Firing}
use Rattle.sdf_prec.specs.Tables.{firings}
use Rattle.sdf_prec.specs.Seen.{MarksNew, IsCellFault}
use Rattle.sdf_prec.proofs.RowMarks.{cells_read, too_wide, refused, marked_more}
use Rattle.sdf_prec.proofs.accept.cells.mark_rows.Goals as goal

pub returns-then-len-width-clause-marked : goal.returns-then-len-width-clause-marked
returns-then-len-width-clause-marked c =
    let read = cells_read c.args.rows.now c.loop-i.i c.index-rows-i.result c.index-rows-i.result.items
    (omega (arith, c.loop-i-test.true)) c.index-rows-i.is refl in
    too_wide c.args.marks.now.firings c.args.width _ c.loop-i.i c.loop-i.marks c.loop-i.order.items
    c.loop-i.invariant.same read.1 c.loop-i.invariant.marked
    (omega (arith, ap length read.0, c.len.ensures, c.if-len-width.true))

pub returns-in-Some-clause-marked : goal.returns-in-Some-clause-marked
returns-in-Some-clause-marked c =
    let read = cells_read c.args.rows.now c.loop-i.i c.index-rows-i.result c.deref.result.now
    (omega (arith, c.loop-i-test.true)) c.index-rows-i.is c.deref.ensures.value in
    let p : ℕ × Firing = (c.in-Some.field-0-0, c.in-Some.firing) in
    let st = c.in_ok-firing.ensures.stopped p c.in-Some.is in
    refused c.args.marks.now.firings c.args.width _ c.loop-i.i p.0 p.1 c.loop-i.marks c.loop-i.order.items
    c.mark_row.new.order.items c.cell_fault.result c.loop-i.invariant.same read.1
    (omega (arith, ap length read.0, ap length c.deref.ensures.value, c.len.ensures, c.if-len-width.false))
    c.loop-i.invariant.marked (subst (λ r. p.0 < length r) read.0 st.0)
    (ap (λ r. get_or r p.0 None) (sym read.0) ∙ st.2)
    (st.1 ∙ ap (λ r. c.loop-i.order.items ++ firings (take p.0 r)) read.0) c.in_ok-firing.ensures.fresh st.3
    (subst (λ n. IsCellFault n c.loop-i.i p.1 c.cell_fault.result)
    (c.in_ok-firing.ensures.same ∙ c.loop-i.invariant.same) c.cell_fault.ensures)

pub loop-i-preserved : goal.loop-i-preserved
loop-i-preserved c =
    let read = cells_read c.args.rows.now c.loop-i.i c.index-rows-i.result c.deref.result.now
    (omega (arith, c.loop-i-test.true)) c.index-rows-i.is c.deref.ensures.value in
    let all = c.in_ok-firing.ensures.all c.in_default.is in
    record {
      same = c.in_ok-firing.ensures.same ∙ c.loop-i.invariant.same;
      marked = marked_more c.args.width _ c.loop-i.i c.loop-i.marks c.mark_row.new.marks c.loop-i.order.items
          c.mark_row.new.order.items read.1
          (omega (arith, ap length read.0, ap length c.deref.ensures.value, c.len.ensures, c.if-len-width.false))
          c.loop-i.invariant.marked c.in_ok-firing.ensures.same
          (all.0 ∙ ap (λ r. c.loop-i.order.items ++ firings r) read.0) c.in_ok-firing.ensures.fresh
          c.in_ok-firing.ensures.marked
          (subst (λ r. MarksNew c.loop-i.marks c.mark_row.new.marks (firings r) (c.loop-i.i + 1)) read.0 all.1);
    }
