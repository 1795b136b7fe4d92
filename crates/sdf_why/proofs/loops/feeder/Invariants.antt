use Rattle.std.proofs.Common.{ℕ, ◌<◌}
use Rattle.sdf_why.specs.Loops.{Feeds}
use Rattle.sdf_why.proofs.loops.feeder.Given as goal

abbrev pub invariant-loop-number : goal.invariant-loop-number
invariant-loop-number l = (c : ℕ) → c < l.number → Feeds l.graph l.kept l.actor c → ⊥
