use Rattle.std.proofs.Common.{ℕ, ◌+◌, ◌%◌, ◌*◌, take, ap, ◌∙◌, arith}
use Rattle.sdf_one.proofs.FiringMany.{fired_inner}
use Rattle.sdf_one.proofs.work.Work.fire_in_parts.Goals as goal

pub returns-in-Inner : goal.returns-in-Inner
returns-in-Inner g c =
    let all : ℕ = c.args.times * c.block_size-size.result in
    fired_inner g.A.Actor.steps c.args.times c.args.firings c.args.ports.now.ins.channels.now
    c.args.ports.now.outs.channels.now
    c.args.ports.now.ins.sizes.now c.args.ports.now.outs.sizes.now c.args.queues.now c.put_fronts.new.queues
    c.args.self.now
    c.in-Inner.actor c.in-Inner.phase c.phase_after.result c.in-Inner.state c.fire_many_into.new.state c.in-Inner.taken
    c.in-Inner.put c.take_fronts.new.block c.fire_many_into.new.put c.take_fronts.new.queues
    (take all c.take_fronts.new.block.items)
    (take (c.args.times * c.block_size-more.result) c.fire_many_into.new.put.items) c.block_size-more.result
    c.in-Inner.is c.take_fronts.ensures.block
    (c.phase_after.ensures ∙ ap (λ m. (c.in-Inner.phase + c.args.firings) % m) c.cycle.ensures)
    c.fire_many_into.ensures.state c.fire_many_into.ensures.put c.block_size-more.ensures
    (c.take_fronts.ensures.capacity ∙ c.lengthen.ensures.capacity)
    c.fire_many_into.ensures.len c.take_fronts.ensures.queues
    (λ d l. c.put_fronts.ensures.queues d (omega (arith, c.take_fronts.auto.queues)))
    c.take_fronts.ensures.rooms (λ d l. c.put_fronts.ensures.rooms d (omega (arith, c.take_fronts.auto.queues)))
