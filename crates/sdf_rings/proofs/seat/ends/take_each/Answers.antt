use Rattle.std.proofs.Common.{slice_index, arith, sym}
use Rattle.sdf_rings.specs.Blocks.{block_of}
use Rattle.sdf_rings.specs.Ends.{Drew}
use Rattle.sdf_rings.proofs.Blocks.{block_kept}
use Rattle.sdf_rings.proofs.Walks.{walked_none, walked_more}
use Rattle.sdf_rings.proofs.seat.ends.take_each.Goals as goal

pub loop-i-init : goal.loop-i-init
loop-i-init g c = walked_none Drew (slice_index c.args.sizes.now)
    (λ k. block_of (slice_index c.args.sizes.now) k c.args.taken.now) c.args.ends.now

pub loop-i-preserved : goal.loop-i-preserved
loop-i-preserved g c =
    let rate = slice_index c.args.sizes.now in
    walked_more Drew rate (λ k. block_of rate k c.loop-i.taken) c.args.ends.now c.loop-i.ends c.loop-i.i c.loop-i.at
    c.loop-i.invariant
    (λ k. block_of rate k c.take_at.new.taken) c.take_at.new.end c.index-ends-i.result (omega arith)
    (λ k l. sym (block_kept rate k c.loop-i.i c.loop-i.at c.loop-i.taken c.take_at.new.taken l c.loop-i.invariant.at_is
    c.take_at.ensures.before))
    (rw (← c.loop-i.invariant.at_is) c.take_at.ensures.block)
