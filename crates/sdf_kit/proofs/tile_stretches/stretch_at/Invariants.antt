use Rattle.std.proofs.Common.{◌≡◌, ◌≤◌, ◌-◌, length, take}
use Rattle.std.specs.Prelude.{sum}
use Rattle.sdf_kit.proofs.tile_stretches.stretch_at.Given as goal

abbrev pub invariant-weights : goal.invariant-weights
invariant-weights l = record {
  within : l.reached ≤ length l.weights;
  summed : l.total ≡ sum (take l.reached l.weights);
  light : l.total ≤ 65535;
}

abbrev pub decreases-weights : goal.decreases-weights
decreases-weights l = length l.weights - l.reached
