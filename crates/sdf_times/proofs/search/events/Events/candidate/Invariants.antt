use Rattle.std.proofs.Common.{◌<◌}
use Rattle.sdf_times.proofs.search.events.Events.candidate.Given as goal

abbrev pub invariant-loop : goal.invariant-loop
invariant-loop l = l.at < l.self.total
