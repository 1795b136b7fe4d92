use Rattle.std.proofs.Common.{ℕ, ◌<◌}
use Rattle.sdf_kit.specs.Tiles.{IsWindow}
use Rattle.sdf_kit.proofs.tiles.are_windows.Given as goal

abbrev pub invariant-loop-vector : goal.invariant-loop-vector
invariant-loop-vector l = (v : ℕ) → v < l.vector → IsWindow l.keep l.up l.down l.set.firings l.pairs v
