use Rattle.std.proofs.Common.{◌≡◌, ℕ, ◌+◌, ◌++◌, ◌∷◌, [], Vec, Global, Option, None, ap, ◌∙◌, refl, subst, sym, arith}
use Rattle.std.specs.Prelude.{slice_get}
use Rattle.sdf_prec.specs.declared.firing.Firing.{Firing}
use Rattle.sdf_prec.specs.Floor.{IsFilling}
use Rattle.sdf_prec.proofs.Fills.{filling_takes, filling_skips}
use Rattle.sdf_prec.proofs.hu.filling.fill.Goals.{then-end-now+in_ok-push, else-end-now+in_ok-push-2}
use Rattle.sdf_prec.proofs.hu.filling.fill.Goals as goal

pub loop-end-preserved : goal.loop-end-preserved
loop-end-preserved c =
    let i : ℕ = c.loop-end.end-index in
    elim c.if-end-now.branch [
      | then-end-now+in_ok-push w ↦
          let items : c.if-end-now.cells.items ≡ c.loop-end.cells.items ++ w.firing_at.result ∷ [] =
          ap (λ (v : Vec (Option Firing) Global). v.items) w.cells-is ∙ w.in_ok-push.ensures.items in
          let is : w.firing_at.result ≡ slice_get c.args.queue.now c.loop-end.next = w.firing_at.ensures in
          let filling = filling_takes c.args.until.now c.args.now i c.args.queue.now c.loop-end.next
          c.loop-end.cells.items c.loop-end.invariant.filling w.firing_at.result w.if-end-now.true is in
          record {
            filling = subst (λ k. IsFilling c.args.until.now c.args.now (i + 1) c.args.queue.now k
                c.if-end-now.cells.items) (sym w.next-is)
                (subst (IsFilling c.args.until.now c.args.now (i + 1) c.args.queue.now (c.loop-end.next + 1))
                (sym items) filling);
            few = omega (arith, w.next-is, c.loop-end.invariant.few);
          }
      | else-end-now+in_ok-push-2 w ↦
          let items : c.if-end-now.cells.items ≡ c.loop-end.cells.items ++ None ∷ [] =
          ap (λ (v : Vec (Option Firing) Global). v.items) w.cells-is ∙ w.in_ok-push-2.ensures.items in
          let filling = filling_skips c.args.until.now c.args.now i c.args.queue.now c.loop-end.next
          c.loop-end.cells.items c.loop-end.invariant.filling None w.if-end-now.false refl in
          record {
            filling = subst (λ k. IsFilling c.args.until.now c.args.now (i + 1) c.args.queue.now k
                c.if-end-now.cells.items) (sym w.next-is)
                (subst (IsFilling c.args.until.now c.args.now (i + 1) c.args.queue.now c.loop-end.next)
                (sym items) filling);
            few = omega (arith, w.next-is, c.loop-end.invariant.few);
          }
    ]
