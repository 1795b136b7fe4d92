use Rattle.sdf_filters.specs.Phases.{AreMovedBy}
use Rattle.sdf_filters.proofs.phases.move_few.Given as goal

abbrev pub invariant-loop : goal.invariant-loop
invariant-loop l = AreMovedBy l.way l.counter l.initial.taps l.taps
