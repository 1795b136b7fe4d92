use Rattle.sdf_actor.specs.Wires.{lists}
use Rattle.sdf_rows.proofs.Jobs.{read_is, can_here}
use Rattle.sdf_queues.specs.Sizes.{at_phase}
use Rattle.sdf_actor.specs.Nets.{wiring}
use Rattle.sdf_rows.proofs.row_firing.fire_job.Goals as goal

pub step_into-requires-clause-can : goal.step_into-requires-clause-can
step_into-requires-clause-can g c = λ κs within.
    let s = g.A.Actor.steps in
    let n = c.args.scene.now.net.now in
    let j = c.args.job.now in
    can_here s n (lists c.args.scene.now.inputs.now) c.args.scene.now.sizes c.args.queues.now j c.requires
    c.node-node.result.now
    c.read_fronts.new.block.items c.puts-many.result c.node-node.ensures.value
    (read_is c.channels_in.result.now ((wiring s n).ins j.actor) c.on.result.now
    (at_phase c.args.scene.now.sizes.takes j.phase) c.args.queues.now c.clear.new.self.items
    c.read_fronts.new.block.items
    c.channels_in.ensures c.on.ensures c.clear.ensures.items c.read_fronts.ensures.block) c.puts-many.ensures
