use Rattle.std.proofs.Common.{◌<◌, ℕ, length}
use Rattle.sdf_actor.specs.declared.sides.Lists.TheVariants.{Outputs}
use Rattle.sdf_actor.specs.NetFaults.{HasList}
use Rattle.sdf_actor.proofs.checks.lists.list_counts.Given as goal

abbrev pub invariant-loop-channel : goal.invariant-loop-channel
invariant-loop-channel g l = (e : ℕ) → e < l.channel → HasList l.nodes Outputs (length l.nodes) e
