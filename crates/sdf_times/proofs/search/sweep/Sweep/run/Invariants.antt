use Rattle.std.proofs.Common.{◌≡◌}
use Rattle.sdf_times.proofs.search.sweep.Sweep.run.Given as goal

abbrev pub invariant-loop-i : goal.invariant-loop-i
invariant-loop-i l = l.self ≡ l.initial.self
