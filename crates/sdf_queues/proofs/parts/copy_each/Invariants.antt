use Rattle.sdf_queues.specs.Parts.{AreCopied}
use Rattle.sdf_queues.proofs.parts.copy_each.Given as goal

abbrev pub invariant-loop-i : goal.invariant-loop-i
invariant-loop-i g l = AreCopied l.out l.into 1 l.i l.from l.initial.to l.to
