use Rattle.std.proofs.Common.{◌≤◌, ◌-◌, length}
use Rattle.sdf_kit.specs.Tiles.{AreCarried}
use Rattle.sdf_kit.proofs.carries.wide_sums.Given as goal

abbrev pub invariant-stretches : goal.invariant-stretches
invariant-stretches l = record {
  within : l.done ≤ length l.stretches;
  a : AreCarried l.taps l.x l.done l.a;
  b : AreCarried l.taps l.y l.done l.b;
  c : AreCarried l.taps l.z l.done l.c;
  d : AreCarried l.taps l.w l.done l.d;
}

abbrev pub decreases-stretches : goal.decreases-stretches
decreases-stretches l = length l.stretches - l.done
