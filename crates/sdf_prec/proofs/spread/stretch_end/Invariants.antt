use Rattle.std.proofs.Common.{◌<◌, ℕ}
use Rattle.sdf_graph.specs.Rates.{rates}
use Rattle.sdf_prec.specs.Spread.{MayPart}
use Rattle.sdf_prec.proofs.spread.stretch_end.Given as goal

abbrev pub invariant-loop-k : goal.invariant-loop-k
invariant-loop-k l = (k : ℕ) → l.actor < k → k < l.k → MayPart (rates l.graph) k → ⊥
