use Rattle.std.proofs.Common.{◌≡◌, length}
use Rattle.sdf_times.proofs.search.setup.room_counters.Given as goal

abbrev pub invariant-loop-number : goal.invariant-loop-number
invariant-loop-number l = length l.counters.items ≡ l.number
