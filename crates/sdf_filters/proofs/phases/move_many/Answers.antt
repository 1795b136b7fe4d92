use Rattle.sdf_filters.specs.Phases.{weight}
use Rattle.sdf_filters.proofs.PhaseSums.{moved_start, moved_step}
use Rattle.sdf_filters.proofs.phases.move_many.Goals as goal

pub loop-init : goal.loop-init
loop-init c = (
  moved_start c.args.way.up c.args.way.phase (weight c.args.way.up c.args.way.phase) c.args.way.rise c.args.taps.now,
  c.tree_of-tree.ensures,
)

pub loop-preserved : goal.loop-preserved
loop-preserved c = (
  moved_step c.args.way.up c.args.way.phase (weight c.args.way.up c.args.way.phase) c.args.way.rise c.loop.counter
      c.args.taps.now c.loop.taps c.step_turn.new.taps c.loop.invariant.0 c.in_ok-step_turn.ensures.moves,
  c.update_tree.ensures,
)
