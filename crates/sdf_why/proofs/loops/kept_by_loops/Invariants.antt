use Rattle.std.proofs.Common.{count_by}
use Rattle.sdf_why.specs.Loops.{HoldsLoops}
use Rattle.sdf_why.proofs.loops.kept_by_loops.Given as goal

abbrev pub invariant-loop-actor : goal.invariant-loop-actor
invariant-loop-actor l = HoldsLoops l.graph l.kept.items

-- the actors that are left
abbrev pub decreases-loop-actor : goal.decreases-loop-actor
decreases-loop-actor l = count_by (λ kept. kept) l.kept.items
