use Rattle.std.proofs.Common.{◌≡◌}
use Rattle.sdf_times.proofs.search.sweep.Sweep.place_row.Given as goal

abbrev pub invariant-loop-column : goal.invariant-loop-column
invariant-loop-column l = l.self ≡ l.initial.self
