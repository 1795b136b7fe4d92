use Rattle.std.proofs.Common.{◌<◌, ℕ}
use Rattle.sdf_actor.specs.Wires.{lists}
use Rattle.sdf_rings.specs.Changes.{AllBecame}
use Rattle.sdf_rings.specs.Ends.{IsMet}
use Rattle.sdf_rings.specs.Seats.{HasIdled}
use Rattle.sdf_rings.specs.Rests.{producer_of, consumer_of, AreRings}
use Rattle.sdf_rings.proofs.rings.meet.sync_all.Given as goal

abbrev pub invariant-loop-c : goal.invariant-loop-c
invariant-loop-c g l = record {
  rings : AreRings g.A.Actor.steps (record {
    net = l.net;
    inputs = lists l.inputs;
    seats = l.seats;
    places = l.places;
  });
  met : (k : ℕ) (e : _) (d : _) (x : _) (y : _) → k < l.c →
      IsMet (producer_of l.net l.seats l.places e d y k) (consumer_of l.net l.seats l.places e d x k);
  idle : AllBecame (HasIdled g.A.Actor.steps l.net) l.initial.seats l.seats;
}
