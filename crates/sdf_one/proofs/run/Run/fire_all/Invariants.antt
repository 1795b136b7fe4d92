use Rattle.std.proofs.Common.{◌≡◌, ◌-◌, ◌*◌, ◌<◌, ℕ, length, slice_index}
use Rattle.sdf_one.specs.Sweeps.{IsSwept, HasRoom, Keeps}
use Rattle.sdf_one.proofs.run.Run.fire_all.Given as goal

abbrev pub invariant-loop-self : goal.invariant-loop-self
invariant-loop-self g l = record {
  swept : IsSwept g.A.Actor.steps l.self;
  keeps : Keeps l.initial.self l.self;
  room : HasRoom g.A.Actor.steps l.size l.self;
  done : (a : ℕ) → a < length l.self.net.now.nodes →
      slice_index l.self.done.items a ≡ l.self.high * slice_index l.self.repetitions.now a;
}

abbrev pub decreases-loop-self : goal.decreases-loop-self
decreases-loop-self g l = l.self.periods - l.self.high
