use Rattle.std.proofs.Common.{◌≡◌, ◌<◌, ℕ, false}
use Rattle.sdf_one.specs.Sweeps.{IsSwept, MayFire, IsMoved}
use Rattle.sdf_one.proofs.run.Run.sweep.Given as goal

abbrev pub invariant-loop-a : goal.invariant-loop-a
invariant-loop-a g l = record {
  swept : IsSwept g.A.Actor.steps l.self;
  moved : IsMoved l.initial.self l.self l.moved;
  stops : l.moved ≡ false → (b : ℕ) → b < l.a → MayFire g.A.Actor.steps l.self b → ⊥;
}
