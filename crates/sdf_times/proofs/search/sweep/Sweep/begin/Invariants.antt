use Rattle.std.proofs.Common.{◌≡◌}
use Rattle.sdf_times.proofs.search.sweep.Sweep.begin.Given as goal

abbrev pub invariant-loop-actor : goal.invariant-loop-actor
invariant-loop-actor l = l.self ≡ l.initial.self
