use Rattle.std.proofs.Common.{ℕ, ◌+◌, ◌-◌, ◌*◌, length, sym, ap, ◌∙◌, arith}
use Rattle.std.specs.List.{between}
use borrow.Rule.Slice.PartMut.{same_len_mid}
use Rattle.sdf_actor.specs.Steps.{puts_to}
use Rattle.sdf_queues.proofs.Buffers.{holds_more}
use Rattle.sdf_queues.proofs.queue.Queue.put_fired.Goals as goal

pub returns-clause-queue : goal.returns-clause-queue
returns-clause-queue g c =
    let i = c.self.inside in
    let to : ℕ = c.make_room-place.result.1 in
    let made : ℕ = c.args.many * c.args.size in
    holds_more c.make_room-place.new.list c.deref_mut.result.now c.fire_many.new.put
    (puts_to g.A.Actor.steps c.args.batch.actor.now c.args.batch.phase c.args.state.now c.args.taken.now
    c.args.batch.times) (between i.start i.end i.items.items) i.room c.args.self.now
    c.make_room-place.result.0 to made (to + made - to) c.make_room-place.ensures.rise
    c.make_room-place.ensures.within c.deref_mut.ensures.len c.deref_mut.ensures.value
    (omega (arith, c.fire_many.auto.put, c.make_room-place.ensures.within, c.deref_mut.ensures.len))
    (same_len_mid to (to + made - to) c.deref_mut.result.now c.fire_many.new.put c.fire_many.auto.put)
    c.make_room-place.ensures.same c.self.view_is c.fire_many.ensures.put

pub returns-clause-long : goal.returns-clause-long
returns-clause-long g c = ap length (sym c.fire_many.ensures.put)
    ∙ omega (arith, c.fire_many.auto.put, c.make_room-place.ensures.within, c.deref_mut.ensures.len)
