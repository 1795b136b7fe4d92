use Rattle.std.proofs.Common.{◌≡◌, ◌*◌, ◌≤◌, take}
use Rattle.sdf_kit.specs.Stretches.{weight}
use Rattle.sdf_kit.proofs.stretches.weight.Given as goal

abbrev pub invariant-loop-pair : goal.invariant-loop-pair
invariant-loop-pair l = record {
  is : l.most ≡ weight (take (2 * l.pair) l.taps);
  small : l.most ≤ 65536;
}
