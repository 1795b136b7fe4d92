use Rattle.sdf_filters.specs.Phases.{weight}
use Rattle.sdf_filters.proofs.PhaseSums.{moved_start, moved_step}
use Rattle.sdf_filters.proofs.phases.move_each.Goals as goal

pub loop-turn-init : goal.loop-turn-init
loop-turn-init c = moved_start c.args.way.up c.args.way.phase (weight c.args.way.up c.args.way.phase) c.args.way.rise
    c.args.taps.now

pub loop-turn-preserved : goal.loop-turn-preserved
loop-turn-preserved c =
    moved_step c.args.way.up c.args.way.phase (weight c.args.way.up c.args.way.phase) c.args.way.rise c.loop-turn.turn
    c.args.taps.now c.loop-turn.taps c.step_turn.new.taps c.loop-turn.invariant c.in_ok-step_turn.ensures.moves
