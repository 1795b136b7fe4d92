use Rattle.std.proofs.Common.{◌≡◌}
use Rattle.sdf_times.proofs.search.sweep.Sweep.restart.Given as goal

abbrev pub invariant-loop-number : goal.invariant-loop-number
invariant-loop-number l = l.self ≡ l.initial.self
