use Rattle.std.proofs.Common.{◌≡◌, ◌-◌, ◌%◌, ◌≤◌, length, take}
use Rattle.sdf_kit.specs.Dots.{dot}
use Rattle.sdf_kit.proofs.stretches.wide_dots.Given as goal

abbrev pub invariant-stretches : goal.invariant-stretches
invariant-stretches l = record {
  within : l.done ≤ length l.taps;
  whole : l.done % 16 ≡ 0;
  a : l.sums.a ≡ dot (take l.done l.taps) (take l.done l.x);
  b : l.sums.b ≡ dot (take l.done l.taps) (take l.done l.y);
  c : l.sums.c ≡ dot (take l.done l.taps) (take l.done l.z);
  d : l.sums.d ≡ dot (take l.done l.taps) (take l.done l.w);
}

abbrev pub decreases-stretches : goal.decreases-stretches
decreases-stretches l = length l.taps - l.done
