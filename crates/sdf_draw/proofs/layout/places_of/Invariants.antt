use Rattle.std.proofs.Common.{◌≡◌, ℕ, ◌<◌, length}
use Rattle.sdf_draw.specs.Layouts.{IsPlaced}
use Rattle.sdf_draw.proofs.layout.places_of.Given as goal

abbrev pub invariant-loop-actor : goal.invariant-loop-actor
invariant-loop-actor l = record {
  all : length l.places.items ≡ l.actor;
  each : (a : ℕ) → a < l.actor → IsPlaced l.design l.depths l.top l.places.items a;
}
