use Rattle.std.proofs.Common.{◌≡◌, ◌*◌, ◌≤◌, take}
use Rattle.sdf_kit.specs.Dots.{total_abs}
use Rattle.sdf_kit.proofs.branches.total.Given as goal

abbrev pub invariant-loop-tap : goal.invariant-loop-tap
invariant-loop-tap l = record {
  is : l.total ≡ total_abs (take l.tap-index l.taps);
  small : l.total ≤ l.tap-index * 32768;
}
