use Rattle.std.proofs.Common.{◌≡◌, map, take}
use Rattle.sdf_profile.specs.Times.{time_of}
use Rattle.sdf_profile.proofs.costs.times_of.Given as goal

abbrev pub invariant-loop-one : goal.invariant-loop-one
invariant-loop-one l = l.times.items ≡ map time_of (take l.one-index l.spent)
