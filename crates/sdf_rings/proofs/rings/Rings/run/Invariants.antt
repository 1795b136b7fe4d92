use Rattle.std.proofs.Common.{◌≡◌, ◌+◌, ◌<◌, ◌≤◌, ℕ, List}
use Rattle.sdf_rings.specs.Rests.{HaveMet}
use Rattle.sdf_rings.specs.Asks.{IsPlanned}
use Rattle.sdf_rings.specs.Totals.{total_left}
use Rattle.sdf_rings.proofs.rings.Rings.run.Given as goal

abbrev pub invariant-rounds : goal.invariant-rounds
invariant-rounds g l = record {
  met : HaveMet l.self.net l.self.seats l.self.places;
  planned : (order : List ℕ) (cap : ℕ → ℕ) →
      IsPlanned g.A.Actor.steps l.initial.self.net l.initial.self.seats l.initial.self.places order cap →
      IsPlanned g.A.Actor.steps l.self.net l.self.seats l.self.places order cap;
  same : (l.self.net ≡ l.initial.self.net) × (l.self.inputs ≡ l.initial.self.inputs)
      × (l.self.places ≡ l.initial.self.places);
  count : l.rounds + total_left l.self.seats ≤ total_left l.initial.self.seats;
  some : 0 < total_left l.initial.self.seats → 0 < l.rounds + total_left l.self.seats;
}

abbrev pub decreases-rounds : goal.decreases-rounds
decreases-rounds g l = total_left l.self.seats
