use Rattle.std.proofs.Common.{◌≡◌, ℕ, ◌+◌, ◌*◌, ◌<◌, ◌≤◌, length, take, drop, get_or}
use Rattle.sdf_kit.specs.Stretches.{weight}
use Rattle.sdf_kit.proofs.tile_stretches.weigh.Given as goal

abbrev pub invariant-loop-pair : goal.invariant-loop-pair
invariant-loop-pair l = record {
  len : length l.weights ≡ l.pairs;
  heavy : (v k : ℕ) → v < l.vectors → k < l.pair →
      weight (take 16 (drop (v * (16 * l.pairs) + 16 * k) l.table)) ≤ get_or l.weights k 0;
}
