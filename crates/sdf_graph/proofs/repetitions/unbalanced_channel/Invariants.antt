use Rattle.std.proofs.Common.{ℕ, ◌<◌, get_or}
use Rattle.sdf_graph.specs.RelativeRates.{IsBalanced, no_totals}
use Rattle.sdf_graph.proofs.repetitions.unbalanced_channel.Given as goal

abbrev pub invariant-loop-i : goal.invariant-loop-i
invariant-loop-i l = (c : ℕ) → c < l.i → IsBalanced l.ratios (get_or l.channels c no_totals)
