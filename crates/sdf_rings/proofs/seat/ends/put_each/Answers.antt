use Rattle.std.proofs.Common.{slice_index, arith, refl}
use Rattle.sdf_rings.specs.Blocks.{block_of}
use Rattle.sdf_rings.specs.Ends.{Gave}
use Rattle.sdf_rings.proofs.Walks.{walked_none, walked_more}
use Rattle.sdf_rings.proofs.seat.ends.put_each.Goals as goal

pub loop-i-init : goal.loop-i-init
loop-i-init g c = walked_none Gave (slice_index c.args.sizes.now)
    (λ k. block_of (slice_index c.args.sizes.now) k c.args.put.now) c.args.ends.now

pub loop-i-preserved : goal.loop-i-preserved
loop-i-preserved g c =
    let part = λ (k : _). block_of (slice_index c.args.sizes.now) k c.args.put.now in
    walked_more Gave (slice_index c.args.sizes.now) part c.args.ends.now c.loop-i.ends c.loop-i.i c.loop-i.at
    c.loop-i.invariant
    part c.put_at.new.end c.index-ends-i.result (omega arith) (λ k l. refl)
    (rw (← c.loop-i.invariant.at_is) c.put_at.ensures)
