use Rattle.std.proofs.lemmas.Result.{err_from_is_err_and}
use Rattle.std.proofs.Common.{List, subst, sym, arith}
use Rattle.sdf_filters.specs.declared.stage.Stage.{Stage}
use Rattle.sdf_filters.specs.Stages.{IsSplitOf}
use Rattle.sdf_filters.proofs.Splits.{none_yet, one_more, less_left, all_done, fault_of_all}
use Rattle.sdf_filters.proofs.split.split.Goals as goal

pub parts-init : goal.parts-init
parts-init c =
    subst (λ (stages : List Stage). IsSplitOf c.args.ratio.up c.args.ratio.down c.args.ratio.up c.args.ratio.down
    stages) (sym c.new-stages.ensures.items)
    (none_yet c.args.ratio.up c.args.ratio.down c.requires.up c.requires.down)

pub parts-preserved : goal.parts-preserved
parts-preserved c =
    rw (c.in_ok-push.ensures.items, c.after-left.ensures.up, c.after-left.ensures.down)
    (one_more c.args.ratio.up c.args.ratio.down c.parts.left.up c.parts.left.down c.parts.stages.items
    c.in_ok-stage.stage c.parts.invariant c.in_ok-stage.ensures)

pub parts-smaller : goal.parts-smaller
parts-smaller c =
    rw (c.after-left.ensures.up, c.after-left.ensures.down)
    (less_left c.parts.left.up c.parts.left.down c.in_ok-stage.stage c.parts.invariant.up_some
    c.parts.invariant.down_some c.in_ok-stage.ensures)

pub returns : goal.returns
returns c = all_done c.args.ratio.up c.args.ratio.down c.parts.left.up c.parts.left.down c.parts.stages.items
    c.parts.invariant (omega arith)

pub returns-in_err-stage : goal.returns-in_err-stage
returns-in_err-stage c =
    let p = err_from_is_err_and c.from_residual.result c.from_residual.ensures.1 in
    rw (p.1, p.2) (
    fault_of_all c.args.ratio.up c.args.ratio.down c.parts.left.up c.parts.left.down c.parts.stages.items
    c.parts.invariant c.in_err-stage.field-0.0 c.in_err-stage.ensures)
