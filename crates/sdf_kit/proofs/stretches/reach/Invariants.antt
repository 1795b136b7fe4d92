use Rattle.std.proofs.Common.{◌≡◌, ◌-◌, ◌*◌, ◌≤◌, length}
use Rattle.sdf_kit.specs.Stretches.{weight_of}
use Rattle.sdf_kit.proofs.stretches.reach.Given as goal

abbrev pub invariant-sixteens : goal.invariant-sixteens
invariant-sixteens l = record {
  within : 16 * l.reached ≤ length l.taps;
  total : l.total ≡ weight_of l.reached l.taps;
  small : l.total ≤ 65535;
}

abbrev pub decreases-sixteens : goal.decreases-sixteens
decreases-sixteens l = length l.taps - 16 * l.reached
