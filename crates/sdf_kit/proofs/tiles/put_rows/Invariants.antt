use Rattle.std.proofs.Common.{◌≡◌, ℕ, ◌+◌, ◌*◌, ◌<◌, length, get_or, pos}
use Rattle.sdf_kit.specs.Tiles.{lane_place, tile_tap}
use Rattle.sdf_kit.proofs.tiles.put_rows.Given as goal

abbrev pub invariant-loop-vector : goal.invariant-loop-vector
invariant-loop-vector l = record {
  len : length l.table ≡ length l.initial.table;
  done : (v k i : ℕ) → v < l.vector → k < 8 → i < 2 * l.pairs →
      get_or l.table (v * (16 * l.pairs) + lane_place k i) (pos 0) ≡ tile_tap l.taps l.up l.down v k i;
}
