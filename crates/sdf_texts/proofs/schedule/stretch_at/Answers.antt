use Rattle.std.proofs.Common.{arith}
use Rattle.sdf_texts.proofs.Stretches.{goes_on, ends_before, ends_last}
use Rattle.sdf_texts.proofs.schedule.stretch_at.Goals.{then-loop-past-test+else-actor-order, else-loop-past-test}
use Rattle.sdf_texts.proofs.schedule.stretch_at.Goals as goal

pub loop-past-preserved : goal.loop-past-preserved
loop-past-preserved c = record {
  after = omega arith;
  within = omega arith;
  same = goes_on c.args.order.now c.args.at c.loop-past.past _ c.loop-past.invariant.after (omega arith)
      c.if-actor-order.true c.loop-past.invariant.same;
}

pub returns-clause-stretch : goal.returns-clause-stretch
returns-clause-stretch c =
    elim c.loop-past-test.branch [
      | then-loop-past-test+else-actor-order w ↦ ends_before c.args.order.now c.args.at c.loop-past.past
          _ c.loop-past.invariant.after (omega arith) w.if-actor-order.false c.loop-past.invariant.same
      | else-loop-past-test w ↦ ends_last c.args.order.now c.args.at c.loop-past.past _ c.loop-past.invariant.after
          (omega arith) c.loop-past.invariant.same
    ]
