use Rattle.std.proofs.Common.{◌≡◌, ◌≤◌, ◌-◌, ◌/◌, ◌%◌, length, map, to_z, w32}
use Rattle.sdf_kit.specs.Tiles.{AreTileSums}
use Rattle.sdf_kit.proofs.eights.tile_sums.Given as goal

abbrev pub invariant-pairs : goal.invariant-pairs
invariant-pairs l = record {
  within : l.at ≤ length l.x;
  even : l.at % 2 ≡ 0;
  a : AreTileSums l.taps l.x (l.at / 2) (map (to_z w32) l.a);
  b : AreTileSums l.taps l.y (l.at / 2) (map (to_z w32) l.b);
  c : AreTileSums l.taps l.z (l.at / 2) (map (to_z w32) l.c);
  d : AreTileSums l.taps l.w (l.at / 2) (map (to_z w32) l.d);
}

abbrev pub decreases-pairs : goal.decreases-pairs
decreases-pairs l = length l.x - l.at
