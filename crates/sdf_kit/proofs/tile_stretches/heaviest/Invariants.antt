use Rattle.std.proofs.Common.{ℕ, ◌+◌, ◌*◌, ◌<◌, ◌≤◌, take, drop}
use Rattle.sdf_kit.specs.Stretches.{weight}
use Rattle.sdf_kit.proofs.tile_stretches.heaviest.Given as goal

abbrev pub invariant-loop-vector : goal.invariant-loop-vector
invariant-loop-vector l =
    (v : ℕ) → v < l.vector → weight (take 16 (drop (v * (16 * l.pairs) + 16 * l.pair) l.table)) ≤ l.most
