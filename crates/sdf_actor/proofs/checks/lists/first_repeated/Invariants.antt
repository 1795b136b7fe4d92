use Rattle.std.proofs.Common.{◌<◌, ℕ}
use Rattle.sdf_actor.specs.NetFaults.{Repeats}
use Rattle.sdf_actor.proofs.checks.lists.first_repeated.Given as goal

abbrev pub invariant-loop-a : goal.invariant-loop-a
invariant-loop-a g l = (b : ℕ) → b < l.a → Repeats l.nodes b → ⊥
