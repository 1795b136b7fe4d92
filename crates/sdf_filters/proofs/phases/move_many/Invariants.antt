use Rattle.std.proofs.Common.{◌<◌}
use Rattle.std.specs.List.{All}
use Rattle.sdf_filters.specs.Phases.{AreMovedBy}
use Rattle.sdf_filters.proofs.phases.move_many.Given as goal

abbrev pub invariant-loop : goal.invariant-loop
invariant-loop l = AreMovedBy l.way l.counter l.initial.taps l.taps × All (λ turn. turn < l.way.turns) l.tree
