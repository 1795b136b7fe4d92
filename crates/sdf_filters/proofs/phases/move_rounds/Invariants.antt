use Rattle.std.proofs.Common.{◌*◌}
use Rattle.sdf_filters.specs.Phases.{AreMovedBy}
use Rattle.sdf_filters.proofs.phases.move_rounds.Given as goal

abbrev pub invariant-loop : goal.invariant-loop
invariant-loop l = AreMovedBy l.way (l.counter * l.way.turns) l.initial.taps l.taps
