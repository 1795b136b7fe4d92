use Rattle.std.proofs.Common.{◌≡◌, ◌++◌, take, refl, arith, ap, ◌∙◌, subst}
use Rattle.std.proofs.lemmas.List.{take_all}
use Rattle.sdf_prec.specs.Numbers.{number}
use Rattle.sdf_prec.specs.Tables.{firings}
use Rattle.sdf_prec.specs.Seen.{MarksNew}
use Rattle.sdf_prec.proofs.Marks.{marking_none, marking_some}
use Rattle.sdf_prec.proofs.accept.cells.mark_row.Goals.{in-Some+else-not-has+else-get-gt0+in_ok-push, in_default}
use Rattle.sdf_prec.proofs.accept.cells.mark_row.Goals as goal

pub loop-j-preserved : goal.loop-j-preserved
loop-j-preserved c = elim c.match-cell.branch [
  | in-Some+else-not-has+else-get-gt0+in_ok-push w ↦
      let none : number c.loop-j.marks w.in-Some.firing ≡ 0 = omega (arith, w.get.ensures, w.if-get-gt0.false) in
      let items = w.in_ok-push.ensures.items in
      let is = marking_some c.args.marks.now c.loop-j.marks w.set.new.self c.args.order.now.items c.loop-j.order.items
      c.args.row.now c.args.mark c.loop-j.j w.in-Some.firing
      c.requires.some c.loop-j-test.true w.in-Some.is c.loop-j.invariant (w.if-not-has.ensures.0 refl) none
      w.set.ensures.same w.set.ensures.given w.set.ensures.others in
      rw (w.marks-is, w.order-is, items) is
  | in_default w ↦
      rw (w.marks-is, w.order-is) (marking_none c.args.marks.now c.loop-j.marks c.args.order.now.items
      c.loop-j.order.items c.args.row.now c.args.mark c.loop-j.j c.loop-j-test.true w.in_default.is
      c.loop-j.invariant)
]

pub returns-clause-all : goal.returns-clause-all
returns-clause-all c e =
    let m = c.loop-j.invariant in
    let whole : take c.loop-j.j c.args.row.now ≡ c.args.row.now =
    take_all c.loop-j.j c.args.row.now c.loop-j-test.false in (
      m.order ∙ ap (λ r. c.args.order.now.items ++ firings r) whole,
      subst (λ r. MarksNew c.args.marks.now c.loop-j.marks (firings r) c.args.mark) whole m.news,
    )
