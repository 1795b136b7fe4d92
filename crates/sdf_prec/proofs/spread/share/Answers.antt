use Rattle.std.proofs.Common.{◌≡◌, ◌+◌, ◌*◌, ◌/◌, ◌<◌, arith, sym, subst}
use Rattle.sdf_prec.specs.Spread.{share}
use Rattle.sdf_prec.proofs.Stretches.{share_within}
use Rattle.sdf_prec.proofs.spread.share.Goals as goal

pub overflow_add-middle : goal.overflow_add-middle
overflow_add-middle c = omega (
  arith,
  c.weight_to.ensures.small,
  c.weight_to-2.ensures.small,
  c.requires.order,
  c.requires.known,
  c.requires.weights.few,
)

pub returns-clause-within : goal.returns-clause-within
returns-clause-within c =
    let is : c.args.m * (c.weight_to.result + c.weight_to-2.result) / (2 * c.weight_to-all.result)
    ≡ share c.args.weights.now c.args.m c.args.first c.args.past =
    λ k. c.args.m * (c.weight_to.ensures.is k + c.weight_to-2.ensures.is k) / (2 * c.weight_to-all.ensures.is k) in
    subst (λ j. j < c.args.m) (sym is)
    (share_within c.args.weights.now c.requires.weights c.args.m c.args.first c.args.past
    (omega (arith, c.requires.workers.0)) c.requires.order c.requires.known)
