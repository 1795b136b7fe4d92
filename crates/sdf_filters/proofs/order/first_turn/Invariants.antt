use Rattle.std.proofs.Common.{◌<◌}
use Rattle.sdf_filters.proofs.order.first_turn.Given as goal

abbrev pub invariant-loop-turn : goal.invariant-loop-turn
invariant-loop-turn l = l.first.turn < l.way.turns
