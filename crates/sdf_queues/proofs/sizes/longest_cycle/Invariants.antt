use Rattle.std.proofs.Common.{◌<◌, ◌≤◌, ℕ}
use Rattle.sdf_actor.specs.Nets.{node, cycle_of}
use Rattle.sdf_queues.proofs.sizes.longest_cycle.Given as goal

abbrev pub invariant-loop-a : goal.invariant-loop-a
invariant-loop-a g l = (b : ℕ) → b < l.a → cycle_of g.A.Actor.steps (node l.net b) ≤ l.longest
