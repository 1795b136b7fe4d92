use Rattle.std.proofs.Common.{◌≤◌}
use Rattle.sdf_graph.specs.RelativeRates.{IsCommon}
use Rattle.sdf_graph.proofs.repetitions.common_denominator.Given as goal

abbrev pub invariant-loop-part : goal.invariant-loop-part
invariant-loop-part l = (l.all ≤ 65536) × IsCommon l.ratios l.part-index l.all
