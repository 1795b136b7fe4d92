use Rattle.sdf_actor.specs.NetFaults.{Agree}
use Rattle.sdf_actor.proofs.checks.samples.first_differing.Given as goal

abbrev pub invariant-loop-a : goal.invariant-loop-a
invariant-loop-a g l = Agree l.nodes l.repetitions l.lists l.a
