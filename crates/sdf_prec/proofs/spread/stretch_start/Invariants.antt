use Rattle.std.proofs.Common.{◌<◌, ◌≤◌, ◌-◌, ℕ}
use Rattle.sdf_graph.specs.Rates.{rates}
use Rattle.sdf_prec.specs.Spread.{MayPart}
use Rattle.sdf_prec.proofs.spread.stretch_start.Given as goal

abbrev pub invariant-loop-back : goal.invariant-loop-back
invariant-loop-back l = (k : ℕ) → l.actor - l.back < k → k ≤ l.actor → MayPart (rates l.graph) k → ⊥
