use Rattle.std.proofs.Common.{◌*◌, ◌-◌, slice_index}
use Rattle.sdf_one.specs.Sweeps.{IsSwept, IsMoved}
use Rattle.sdf_one.proofs.run.Run.fire_node.Given as goal

abbrev pub invariant-loop-fired : goal.invariant-loop-fired
invariant-loop-fired g l = record {
  swept : IsSwept g.A.Actor.steps l.self;
  moved : IsMoved l.initial.self l.self l.fired;
}

abbrev pub decreases-loop-fired : goal.decreases-loop-fired
decreases-loop-fired g l = l.self.high * slice_index l.self.repetitions.now l.a - slice_index l.self.done.items l.a
