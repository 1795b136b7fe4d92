use Rattle.std.proofs.Common.{ℕ, length, get_or, sym, ◌∙◌, None}
use Rattle.std.proofs.lemmas.Bool.{false≢true}
use Rattle.sdf_prec.specs.Trying.{load}
use Rattle.sdf_prec.specs.Placing.{IsOpen}
use Rattle.sdf_prec.proofs.Bests.{best_new, best_kept}
use Rattle.sdf_prec.proofs.hu.homing.least_open.Goals.{then-is_open+then-is_less_loaded, else-is_open}
use Rattle.sdf_prec.proofs.hu.homing.least_open.Goals.{else-is_open-via-then-is_open+else-is_less_loaded}
use Rattle.sdf_prec.proofs.hu.homing.least_open.Goals.{else-is_open-via-else-is_open}
use Rattle.sdf_prec.proofs.hu.homing.least_open.Goals as goal

pub loop-column-preserved : goal.loop-column-preserved
loop-column-preserved c =
    let weigh : ℕ → ℕ = λ j. load (length c.args.homes.now) (λ a. get_or c.args.weights.now a 0)
    (λ a. get_or c.args.homes.now a None) j in
    let i : ℕ = c.loop-column.column in
    elim c.if-is_open.branch [
      | then-is_open+then-is_less_loaded w ↦ rw w.best-is
          (best_new i (IsOpen c.args.until.now c.args.now c.args.cells.now) weigh c.loop-column.best
          c.loop-column.invariant (c.is_open.ensures.0 w.if-is_open.true)
          (w.is_less_loaded.ensures.0 w.if-is_less_loaded.true))
      | else-is_open w ↦ rw w.best-is (best_kept i (IsOpen c.args.until.now c.args.now c.args.cells.now) weigh
          c.loop-column.best c.loop-column.invariant
          (elim w.else-is_open.branch [
            | else-is_open-via-then-is_open+else-is_less_loaded v ↦ λ f h. false≢true
                (sym v.if-is_less_loaded.false ∙ v.is_less_loaded.ensures.1 h)
            | else-is_open-via-else-is_open v ↦ λ f h. false≢true (sym v.if-is_open.false ∙ c.is_open.ensures.1 f)
          ]))
    ]
