use Rattle.std.proofs.Common.{◌≡◌, ℕ, ◌/◌, ◌<◌, length, get_or, pos}
use Rattle.sdf_kit.specs.Tiles.{lane_place, tile_tap}
use Rattle.sdf_kit.proofs.tiles.put_row.Given as goal

abbrev pub invariant-loop-lane : goal.invariant-loop-lane
invariant-loop-lane l = record {
  len : length l.row ≡ length l.initial.row;
  done : (k i : ℕ) → k < l.lane → i < length l.initial.row / 8 → get_or l.row (lane_place k i) (pos 0) ≡
      tile_tap l.taps l.up l.down l.vector k i;
}
