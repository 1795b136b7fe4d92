use Rattle.std.proofs.Common.{◌≡◌, ◌≤◌, ◌*◌, take}
use Rattle.std.specs.Prelude.{sum}
use Rattle.sdf_kit.proofs.tile_stretches.total.Given as goal

abbrev pub invariant-loop-weight : goal.invariant-loop-weight
invariant-loop-weight l = record {
  summed : l.total ≡ sum (take l.weight-index l.weights);
  small : l.total ≤ l.weight-index * 4294967296;
}
