use Rattle.std.proofs.Common.{◌≡◌, ◌<◌, ◌≤◌, ℕ, length, get_or}
use Rattle.rtrb.specs.Ring.{known_items}
use Rattle.sdf_actor.specs.Wires.{lists}
use Rattle.sdf_rings.specs.Places.{SameButEnds}
use Rattle.sdf_rings.specs.Rests.{consumer_of}
use Rattle.sdf_rings.proofs.rings.leave.drain_all.Given as goal

abbrev pub invariant-loop-c : goal.invariant-loop-c
invariant-loop-c g l = record {
  all : length l.held.items ≡ l.c;
  each : (k : ℕ) (z : _) (e : _) (d : _) (x : _) → k < l.c →
      get_or (lists l.held.items) k z ≡ known_items (consumer_of l.net l.initial.seats l.places e d x k);
  ahead : (k : ℕ) (e : _) (d : _) (x : _) → l.c ≤ k → k < length l.net.wires →
      consumer_of l.net l.seats l.places e d x k ≡ consumer_of l.net l.initial.seats l.places e d x k;
  kept : SameButEnds l.initial.seats l.seats;
}
