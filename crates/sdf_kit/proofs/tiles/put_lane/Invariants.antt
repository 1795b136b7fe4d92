use Rattle.std.proofs.Common.{◌≡◌, ℕ, ◌%◌, ◌/◌, ◌<◌, length, get_or, pos}
use Rattle.std.specs.Prelude.{◌≢◌}
use Rattle.sdf_kit.specs.Tiles.{lane_place, lane_tap}
use Rattle.sdf_kit.proofs.tiles.put_lane.Given as goal

abbrev pub invariant-loop-i : goal.invariant-loop-i
invariant-loop-i l = record {
  len : length l.row ≡ length l.initial.row;
  done : (i : ℕ) → i < l.i → get_or l.row (lane_place l.lane i) (pos 0) ≡ lane_tap l.taps l.up l.phase l.end i;
  others : (n : ℕ) → n % 16 / 2 ≢ l.lane → get_or l.row n (pos 0) ≡ get_or l.initial.row n (pos 0);
}
