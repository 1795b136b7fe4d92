use Rattle.std.proofs.Common.{slice_index, ap, arith}
use Rattle.sdf_rings.proofs.RunFired.{fewer_run}
use Rattle.sdf_rings.proofs.Times.{row_left}
use Rattle.sdf_rings.proofs.seat.fire_ready.Goals as goal

pub fire_batch-requires-clause-can : goal.fire_batch-requires-clause-can
fire_batch-requires-clause-can g c κs within =
    fewer_run g.A.Actor.steps c.args.context.net.now c.args.ring_node.now c.in_a_row-many.result
    c.batch_size-known.result
    c.in_a_row-many.ensures.within (c.batch_size-known.ensures.can (omega arith))

pub fire_one-requires-clause-left : goal.fire_one-requires-clause-left
fire_one-requires-clause-left g c κs within =
    let one = row_left c.args.left.now c.args.next 1 c.args.ring_node.now.done c.args.ring_node.now.asked (omega arith)
    (λ j l. ap (slice_index c.args.left.now) (omega arith)) c.requires.counts in
    omega arith
