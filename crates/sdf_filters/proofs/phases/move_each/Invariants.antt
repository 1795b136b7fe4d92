use Rattle.sdf_filters.specs.Phases.{AreMovedBy}
use Rattle.sdf_filters.proofs.phases.move_each.Given as goal

abbrev pub invariant-loop-turn : goal.invariant-loop-turn
invariant-loop-turn l = AreMovedBy l.way l.turn l.initial.taps l.taps
