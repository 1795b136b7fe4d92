use Rattle.std.proofs.Common.{◌∙◌}
use Rattle.sdf_filters.proofs.WholeSums.{one_sum_more}
use Rattle.sdf_filters.proofs.whole.settle_sums.Goals as goal

pub loop-phase-preserved : goal.loop-phase-preserved
loop-phase-preserved c = (
  c.in_ok-settle_sum.ensures.all ∙ c.loop-phase.invariant.0,
  one_sum_more c.loop-phase.taps c.settle_sum.new.taps c.args.up c.loop-phase.phase _
      c.in_ok-settle_sum.ensures.exact c.in_ok-settle_sum.ensures.others c.loop-phase.invariant.1,
)
