use Rattle.std.proofs.Common.{◌≡◌, ◌<◌, length}
use Rattle.sdf_times.proofs.search.events.Events.walk.Given as goal

abbrev pub invariant-loop : goal.invariant-loop
invariant-loop l = record {
  at : l.at < l.self.total;
  all : length l.marks.items ≡ l.self.total;
}
