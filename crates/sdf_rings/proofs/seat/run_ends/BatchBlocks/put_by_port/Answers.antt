use Rattle.std.proofs.Common.{slice_index, arith, refl}
use Rattle.sdf_rings.specs.Ends.{Gave}
use Rattle.sdf_rings.specs.BatchBlocks.{port_blocks}
use Rattle.sdf_rings.proofs.Walks.{walked_none, walked_more}
use Rattle.sdf_rings.proofs.seat.run_ends.BatchBlocks.put_by_port.Goals as goal

pub loop-i-init : goal.loop-i-init
loop-i-init g c =
    let r = c.args.self.now in
    walked_none Gave (slice_index r.sizes.now) (port_blocks r c.args.put.now) c.args.ends.now

pub loop-i-preserved : goal.loop-i-preserved
loop-i-preserved g c =
    let r = c.args.self.now in
    let part = port_blocks r c.args.put.now in
    walked_more Gave (slice_index r.sizes.now) part c.args.ends.now c.loop-i.ends c.loop-i.i c.loop-i.at
    c.loop-i.invariant part c.put_part.new.end c.index-ends-i.result (omega arith) (λ k l. refl)
    (rw (← c.loop-i.invariant.at_is) c.put_part.ensures)
