use Rattle.std.proofs.Common.{◌≡◌, ◌-◌, ◌%◌, ◌≤◌, length, take}
use Rattle.sdf_kit.specs.Dots.{dot}
use Rattle.sdf_kit.proofs.stretches.wide_dot.Given as goal

abbrev pub invariant-stretches : goal.invariant-stretches
invariant-stretches l = record {
  within : l.done ≤ length l.taps;
  whole : l.done % 16 ≡ 0;
  sum : l.sum ≡ dot (take l.done l.taps) (take l.done l.x);
}

abbrev pub decreases-stretches : goal.decreases-stretches
decreases-stretches l = length l.taps - l.done
