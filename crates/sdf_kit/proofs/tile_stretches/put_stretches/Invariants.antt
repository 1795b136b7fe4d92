use Rattle.std.proofs.Common.{◌≡◌, length}
use Rattle.sdf_kit.specs.Tiles.{AreSpans}
use Rattle.sdf_kit.proofs.tile_stretches.put_stretches.Given as goal

abbrev pub invariant-loop-at : goal.invariant-loop-at
invariant-loop-at l = record {
  len : length l.stretches ≡ length l.weights;
  spans : AreSpans l.weights l.stretches l.at;
}
