use Rattle.sdf_times.specs.Times.{IsGreatest}
use Rattle.sdf_times.proofs.Spans.{FirstLevel}
use Rattle.sdf_times.proofs.bounds.first_levels.Given as goal

abbrev pub invariant-loop-actor : goal.invariant-loop-actor
invariant-loop-actor l = IsGreatest (FirstLevel l.of l.actor) l.most
