use Rattle.std.proofs.Common.{ℕ, List, slice_index, arith, sym}
use Rattle.sdf_node.specs.Many.{nth_block}
use Rattle.sdf_rings.specs.Blocks.{start_at, block_of}
use Rattle.sdf_rings.specs.Ends.{Drew}
use Rattle.sdf_rings.specs.BatchBlocks.{port_blocks}
use Rattle.sdf_rings.proofs.Blocks.{block_in}
use Rattle.sdf_rings.proofs.RunEnds.{same_joined}
use Rattle.sdf_rings.proofs.Walks.{walked_none, walked_more}
use Rattle.sdf_rings.proofs.seat.run_ends.BatchBlocks.take_by_port.Goals as goal

pub loop-i-init : goal.loop-i-init
loop-i-init g c =
    let r = c.args.self.now in
    walked_none Drew (slice_index r.sizes.now) (port_blocks r c.args.taken.now) c.args.ends.now

pub loop-i-preserved : goal.loop-i-preserved
loop-i-preserved g c =
    let r = c.args.self.now in
    let rate = slice_index r.sizes.now in
    let block = λ (xs : List _) (k i : ℕ). block_of rate k (nth_block r.size xs i) in
    walked_more Drew rate (port_blocks r c.loop-i.taken) c.args.ends.now c.loop-i.ends c.loop-i.i c.loop-i.at
    c.loop-i.invariant (port_blocks r c.take_part.new.taken) c.take_part.new.end c.index-ends-i.result (omega arith)
    (λ k l. let b = block_in rate k c.loop-i.i l in
    same_joined (block c.loop-i.taken k) (block c.take_part.new.taken k) r.many
    (λ i m. sym (c.take_part.ensures.before i (start_at rate k) (rate k) m
    (omega (arith, b, c.loop-i.invariant.at_is)))))
    (rw (← c.loop-i.invariant.at_is) c.take_part.ensures.drew)
