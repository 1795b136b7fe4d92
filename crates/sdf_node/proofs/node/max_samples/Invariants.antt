use Rattle.std.proofs.Common.{◌≤◌, ◌<◌, ℕ}
use Rattle.sdf_node.specs.Nodes.{takes_of, puts_of}
use Rattle.sdf_node.proofs.node.max_samples.Given as goal

abbrev pub invariant-loop-phase : goal.invariant-loop-phase
invariant-loop-phase g l = (j : ℕ) → j < l.phase →
    (takes_of g.A.Actor.steps l.node j ≤ l.max_samples) × (puts_of g.A.Actor.steps l.node j ≤ l.max_samples)
