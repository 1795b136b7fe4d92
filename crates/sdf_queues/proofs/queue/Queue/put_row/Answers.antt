use Rattle.std.proofs.Common.{ℕ, ◌+◌, ◌-◌, ◌*◌, slice_range, arith}
use Rattle.std.specs.List.{between}
use borrow.Rule.Slice.PartMut.{same_len_mid}
use Rattle.sdf_node.specs.Many.{nth_block, joined}
use Rattle.sdf_queues.proofs.Buffers.{holds_more}
use Rattle.sdf_queues.proofs.queue.Queue.put_row.Goals as goal

pub returns : goal.returns
returns g c =
    let i = c.self.inside in
    let to : ℕ = c.make_room-place.result.1 in
    let made : ℕ = c.args.width * c.args.many in
    holds_more c.make_room-place.new.list c.deref_mut.result.now c.gather_row.new.row
    (joined (λ i. slice_range (nth_block c.args.size c.args.blocks.now i) c.args.at (c.args.at + c.args.width))
    c.args.many) (between i.start i.end i.items.items) i.room c.args.self.now
    c.make_room-place.result.0 to made (to + made - to) c.make_room-place.ensures.rise
    c.make_room-place.ensures.within c.deref_mut.ensures.len c.deref_mut.ensures.value
    (omega (arith, c.gather_row.auto.row, c.make_room-place.ensures.within, c.deref_mut.ensures.len))
    (same_len_mid to (to + made - to) c.deref_mut.result.now c.gather_row.new.row c.gather_row.auto.row)
    c.make_room-place.ensures.same c.self.view_is c.gather_row.ensures
