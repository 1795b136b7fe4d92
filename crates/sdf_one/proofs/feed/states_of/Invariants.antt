use Rattle.std.proofs.Common.{◌≡◌, map, take}
use Rattle.sdf_one.specs.Fired.{state_in}
use Rattle.sdf_one.proofs.feed.states_of.Given as goal

abbrev pub invariant-loop-work : goal.invariant-loop-work
invariant-loop-work g l = l.states.items ≡ map state_in (take l.work-index l.works)
