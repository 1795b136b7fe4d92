use Rattle.std.proofs.Common.{◌-◌}
use Rattle.sdf_kit.proofs.Blocks.{IsDone}
use Rattle.sdf_kit.proofs.fir.Fir.run_blocks.Given as goal

abbrev pub invariant-rounds : goal.invariant-rounds
invariant-rounds l = IsDone l.self l.initial.kept l.taken l.kept l.put l.many l.done

abbrev pub decreases-rounds : goal.decreases-rounds
decreases-rounds l = l.many - l.done
