use Rattle.std.proofs.Common.{◌≡◌, ◌≤◌, take}
use Rattle.sdf_rings.specs.Begun.{count_on_seat}
use Rattle.sdf_rings.proofs.setup.places.count_on_seat.Given as goal

abbrev pub invariant-loop-place : goal.invariant-loop-place
invariant-loop-place l = record {
  many : l.many ≡ count_on_seat (take l.place-index l.places) l.seat;
  within : l.many ≤ l.place-index;
}
