use Rattle.std.proofs.Common.{◌≡◌, length}
use Rattle.sdf_times.proofs.search.events.Events.cycle.Given as goal

abbrev pub invariant-loop-root : goal.invariant-loop-root
invariant-loop-root l = length l.marks.items ≡ l.self.total
