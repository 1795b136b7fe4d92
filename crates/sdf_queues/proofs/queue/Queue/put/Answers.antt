use Rattle.std.proofs.Common.{ℕ, ◌+◌, ◌-◌, length, arith}
use Rattle.std.specs.List.{between}
use borrow.Rule.Slice.PartMut.{same_len_mid}
use Rattle.sdf_queues.proofs.Buffers.{holds_more}
use Rattle.sdf_queues.proofs.queue.Queue.put.Goals as goal

pub returns : goal.returns
returns g c =
    let i = c.self.inside in
    let to : ℕ = c.make_room-place.result.1 in
    let made : ℕ = length c.args.block.now in
    holds_more c.make_room-place.new.list c.deref_mut.result.now c.copy_from_slice.new.self
    (c.args.block.now) (between i.start i.end i.items.items) i.room c.args.self.now
    c.make_room-place.result.0 to made (to + made - to) c.make_room-place.ensures.rise
    c.make_room-place.ensures.within c.deref_mut.ensures.len c.deref_mut.ensures.value
    (omega (arith, c.copy_from_slice.auto.self, c.make_room-place.ensures.within, c.deref_mut.ensures.len))
    (same_len_mid to (to + made - to) c.deref_mut.result.now c.copy_from_slice.new.self c.copy_from_slice.auto.self)
    c.make_room-place.ensures.same c.self.view_is c.copy_from_slice.ensures.after
