use Rattle.std.proofs.Common.{◌≡◌, ◌≤◌, ◌-◌, ◌*◌, ◌/◌, length, map, to_z, w32}
use Rattle.sdf_kit.proofs.LaneSums.{AreSoFar}
use Rattle.sdf_kit.proofs.dots.sums.Given as goal

abbrev pub invariant-chunks : goal.invariant-chunks
invariant-chunks l = record {
  within : l.at ≤ length l.h;
  whole : l.at ≡ 16 * (l.at / 16);
  a : AreSoFar l.h l.x (l.at / 16) (map (to_z w32) l.a);
}

abbrev pub decreases-chunks : goal.decreases-chunks
decreases-chunks l = length l.h - l.at
