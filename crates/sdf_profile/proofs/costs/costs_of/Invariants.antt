use Rattle.std.proofs.Common.{◌≡◌, map, take}
use Rattle.sdf_limits.specs.declared.TheConstants.{MAX_COST}
use Rattle.sdf_profile.specs.Costs.{cost_of}
use Rattle.sdf_profile.proofs.costs.costs_of.Given as goal

abbrev pub invariant-loop-time : goal.invariant-loop-time
invariant-loop-time l = l.costs.items ≡ map (cost_of MAX_COST l.least) (take l.time-index l.times)
