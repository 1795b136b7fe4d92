use Rattle.std.proofs.Common.{◌≡◌, ◌<◌, ℕ, get_or, false}
use Rattle.std.specs.Prelude.{is_some}
use Rattle.sdf_actor.specs.declared.node.Node.TheVariants.{Sink}
use Rattle.sdf_actor.specs.Sides.{list_of}
use Rattle.sdf_actor.proofs.checks.samples.first_with.Given as goal

abbrev pub invariant-loop-a : goal.invariant-loop-a
invariant-loop-a g l = (b : ℕ) → b < l.a → is_some (list_of l.lists (get_or l.nodes b (Sink 0 0))) ≡ false
