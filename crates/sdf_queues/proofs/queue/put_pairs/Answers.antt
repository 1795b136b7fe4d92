use Rattle.std.proofs.Common.{ℕ, ◌+◌, ◌-◌, slice_range, arith}
use Rattle.std.specs.List.{between}
use borrow.Rule.Slice.PartMut.{same_len_mid}
use Rattle.sdf_node.specs.Many.{nth_block, joined}
use Rattle.sdf_queues.proofs.Buffers.{holds_more}
use Rattle.sdf_queues.proofs.queue.put_pairs.Goals as goal

pub returns-clause-first : goal.returns-clause-first
returns-clause-first g c =
    let i = c.first.inside in
    let to : ℕ = c.make_room-place.result.1 in
    let made : ℕ = c.args.many in
    holds_more c.make_room-place.new.list c.deref_mut.result.now c.deinterleave.new.left
    (joined (λ i. slice_range (nth_block 2 c.args.pairs.now i) 0 1) made) (between i.start i.end i.items.items)
    i.room c.args.first.now
    c.make_room-place.result.0 to made (to + made - to) c.make_room-place.ensures.rise
    c.make_room-place.ensures.within c.deref_mut.ensures.len c.deref_mut.ensures.value
    (omega (arith, c.deinterleave.auto.left, c.make_room-place.ensures.within, c.deref_mut.ensures.len))
    (same_len_mid to (to + made - to) c.deref_mut.result.now c.deinterleave.new.left c.deinterleave.auto.left)
    c.make_room-place.ensures.same c.first.view_is c.deinterleave.ensures.left

pub returns-clause-second : goal.returns-clause-second
returns-clause-second g c =
    let i = c.second.inside in
    let to : ℕ = c.make_room-other.result.1 in
    let made : ℕ = c.args.many in
    holds_more c.make_room-other.new.list c.deref_mut-2.result.now c.deinterleave.new.right
    (joined (λ i. slice_range (nth_block 2 c.args.pairs.now i) 1 2) made) (between i.start i.end i.items.items)
    i.room c.args.second.now
    c.make_room-other.result.0 to made (to + made - to) c.make_room-other.ensures.rise
    c.make_room-other.ensures.within c.deref_mut-2.ensures.len c.deref_mut-2.ensures.value
    (omega (arith, c.deinterleave.auto.right, c.make_room-other.ensures.within, c.deref_mut-2.ensures.len))
    (same_len_mid to (to + made - to) c.deref_mut-2.result.now c.deinterleave.new.right c.deinterleave.auto.right)
    c.make_room-other.ensures.same c.second.view_is c.deinterleave.ensures.right
