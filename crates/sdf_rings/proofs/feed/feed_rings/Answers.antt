use Rattle.sdf_actor.specs.Wires.{lists}
use Rattle.sdf_rings.proofs.Answered.{has_fed}
use Rattle.sdf_rings.proofs.feed.feed_rings.Goals as goal

pub returns : goal.returns
returns g c =
    has_fed g.A.Actor.steps c.args.net.now c.args.table.now.period.repetitions
    c.args.table.now.blocking c.args.table.now.table
    c.args.blocks (lists c.args.inputs.now) c.args.workers.patience c.in_ok-rings.rings
    c.in_ok-rings.rounds c.in_ok-rings.ensures (lists c.in_ok-outputs.outputs.items) c.in_ok-outputs.rest
    c.in_ok-outputs.ensures
