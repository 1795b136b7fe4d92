use Rattle.std.proofs.Common.{◌≡◌, ◌+◌, ◌≤◌, drop}
use Rattle.sdf_kit.specs.Stretches.{stretch_count}
use Rattle.sdf_kit.proofs.branches.stretch_count.Given as goal

-- the stretches so far, and those of what is left, are all
abbrev pub invariant-loop-sixteens : goal.invariant-loop-sixteens
invariant-loop-sixteens l = record {
  counted : l.stretch_count + stretch_count l.left (drop l.sixteens-index l.stretches) ≡ stretch_count 0 l.stretches;
  few : l.stretch_count ≤ l.sixteens-index;
}
