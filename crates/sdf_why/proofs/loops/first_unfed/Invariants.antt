use Rattle.std.proofs.Common.{ℕ, ◌<◌}
use Rattle.sdf_why.specs.Loops.{IsUnfed}
use Rattle.sdf_why.proofs.loops.first_unfed.Given as goal

abbrev pub invariant-loop-actor : goal.invariant-loop-actor
invariant-loop-actor l = (a : ℕ) → a < l.actor → IsUnfed l.graph l.kept a → ⊥
