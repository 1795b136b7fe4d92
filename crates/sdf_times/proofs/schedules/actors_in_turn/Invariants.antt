use Rattle.std.proofs.Common.{ℕ, ◌*◌, ◌<◌, get_or}
use Rattle.sdf_times.specs.Checks.{AreInTurn, line}
use Rattle.sdf_times.proofs.schedules.actors_in_turn.Given as goal

abbrev pub invariant-loop-actor : goal.invariant-loop-actor
invariant-loop-actor l = (a : ℕ) → a < l.actor → AreInTurn (line l.starts a) (l.q * get_or l.costs a 0) l.t
