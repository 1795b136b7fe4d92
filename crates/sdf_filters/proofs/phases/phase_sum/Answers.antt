use Rattle.std.proofs.Common.{arith}
use Rattle.std.proofs.lemmas.Int.{ints, to_z-of_z}
use Rattle.sdf_filters.proofs.PhaseSums.{sum_before-zero, sum_before_more}
use Rattle.sdf_filters.proofs.phases.phase_sum.Goals as goal

pub loop-place-init : goal.loop-place-init
loop-place-init c = (grind (arith, ints, sum_before-zero), omega (arith, ints), omega (arith, ints))

pub loop-place-preserved : goal.loop-place-preserved
loop-place-preserved c = (grind (arith, ints, to_z-of_z, sum_before_more), omega (arith, ints), omega (arith, ints))
