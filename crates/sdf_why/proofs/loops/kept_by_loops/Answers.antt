use Rattle.std.proofs.Common.{rules}
use Rattle.sdf_why.proofs.Rounds.{targets_hold, loops_stay}
use Rattle.sdf_why.proofs.loops.kept_by_loops.Goals as goal

pub loop-actor-init : goal.loop-actor-init
loop-actor-init c = targets_hold c.args.graph.now c.in_ok-kept.kept.items (search rules)

pub loop-actor-preserved : goal.loop-actor-preserved
loop-actor-preserved c =
    loops_stay c.args.graph.now c.loop-actor.kept.items c.in-Some.actor c.loop-actor.invariant (search rules)
