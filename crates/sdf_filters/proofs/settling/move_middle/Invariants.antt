use Rattle.std.proofs.Common.{◌/◌}
use Rattle.sdf_filters.specs.Phases.{AreMoved}
use Rattle.sdf_filters.proofs.settling.move_middle.Given as goal

abbrev pub invariant-loop : goal.invariant-loop
invariant-loop l = AreMoved l.up (l.up / 2) l.rise l.counter l.initial.taps l.taps
