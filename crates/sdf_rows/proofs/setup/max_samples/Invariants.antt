use Rattle.std.proofs.Common.{◌<◌, ℕ}
use Rattle.sdf_actor.specs.Nets.{node}
use Rattle.sdf_node.specs.Nodes.{IsMaxSamples}
use Rattle.sdf_rows.proofs.setup.max_samples.Given as goal

abbrev pub invariant-loop-a : goal.invariant-loop-a
invariant-loop-a g l = (k : ℕ) → k < l.a → IsMaxSamples g.A.Actor.steps (node l.net k) l.max_samples
