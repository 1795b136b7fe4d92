use Rattle.std.proofs.Common.{◌≡◌, length}
use Rattle.sdf_profile.proofs.stopwatch.Stopwatch.spent.Given as goal

abbrev pub invariant-loop-actor : goal.invariant-loop-actor
invariant-loop-actor g l = length l.all.items ≡ l.actor
