use Rattle.std.proofs.Common.{arith}
use Rattle.sdf_prec.proofs.Markings.{all_listed}
use Rattle.sdf_prec.proofs.hu.marked.Marks.of_all.Goals as goal

pub invariant_of-result : goal.invariant_of-result
invariant_of-result c =
    let v = c.loop-actor.invariant in
    rw (c.in_ok-vec.ensures.items_if_clones_equal (λ y e. e))
    (all_listed c.args.actors c.loop-actor.all.items (omega (
      arith,
      v.count,
      c.loop-actor-test.false,
      c.loop-actor.auto.actor-end,
    )) v.each)
