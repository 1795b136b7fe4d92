use Rattle.std.proofs.Common.{◌≡◌, ◌+◌, ◌-◌, ℕ, sum, cond, false}
use Rattle.sdf_one.specs.Sweeps.{IsSwept, MayFire, Keeps}
use Rattle.sdf_one.proofs.Sweeping.{in_block}
use Rattle.sdf_one.proofs.run.Run.fire_block.Given as goal

abbrev pub invariant-loop-goes : goal.invariant-loop-goes
invariant-loop-goes g l = record {
  swept : IsSwept g.A.Actor.steps l.self;
  keeps : Keeps l.initial.self l.self;
  high : l.self.high ≡ l.initial.self.high;
  stops : l.goes ≡ false → (a : ℕ) → MayFire g.A.Actor.steps l.self a → ⊥;
}

abbrev pub decreases-loop-goes : goal.decreases-loop-goes
decreases-loop-goes g l = cond l.goes 1 0 + (in_block l.self - sum l.self.done.items)
