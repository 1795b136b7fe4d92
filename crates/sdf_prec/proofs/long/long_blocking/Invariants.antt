use Rattle.std.proofs.Common.{◌≤◌}
use Rattle.sdf_limits.specs.declared.TheConstants.{MAX_BLOCK}
use Rattle.sdf_graph.specs.Rates.{rates}
use Rattle.sdf_prec.proofs.Longest.{IsMost}
use Rattle.sdf_prec.proofs.long.long_blocking.Given as goal

abbrev pub invariant-loop-channel : goal.invariant-loop-channel
invariant-loop-channel l = record {
  most : IsMost (rates l.graph) l.repetitions l.channel l.periods;
  small : l.periods ≤ MAX_BLOCK;
}
