use Rattle.std.proofs.Common.{◌≡◌}
use Rattle.sdf_times.proofs.search.events.Events.reset.Given as goal

abbrev pub invariant-loop-index : goal.invariant-loop-index
invariant-loop-index l = l.self ≡ l.initial.self
