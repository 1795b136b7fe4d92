use Rattle.std.proofs.Common.{◌≡◌, ℕ, ◌*◌, ◌<◌, length, get_or}
use Rattle.sdf_times.specs.Checks.{line}
use Rattle.sdf_times.proofs.schedules.is_full.Given as goal

abbrev pub invariant-loop-actor : goal.invariant-loop-actor
invariant-loop-actor l = (a : ℕ) → a < l.actor → length (line l.starts a) ≡ l.j * get_or l.reps a 0
