use Rattle.std.proofs.Common.{slice_index, ◌∙◌, length, ap, arith}
use Rattle.sdf_rings.specs.Blocks.{start_at}
use Rattle.sdf_rings.specs.Ends.{Gave}
use Rattle.sdf_rings.proofs.RunEnds.{lone_fits, lone_end, lone_port}
use Rattle.sdf_rings.proofs.seat.run_ends.BatchBlocks.put.Goals as goal

pub put_block-requires : goal.put_block-requires
put_block-requires g c =
    let r = c.args.self.now in
    lone_fits (slice_index r.sizes.now) r.size r.many (length c.args.ends.now) _ (length c.args.put.now)
    c.if-ends-eq1.true c.requires.ports.size_is c.requires.length
    (c.requires.room 0 c.index-ends-0.result (omega arith))

pub returns-then-ends-eq1 : goal.returns-then-ends-eq1
returns-then-ends-eq1 g c =
    let r = c.args.self.now in
    lone_end Gave c.args.ends.now c.index-ends-0.result c.put_block.new.end c.args.put.now
    _ c.if-ends-eq1.true c.put_block.ensures
    (lone_port (slice_index r.sizes.now) r.size r.many c.args.put.now
    (c.requires.ports.size_is ∙ ap (start_at (slice_index r.sizes.now)) c.if-ends-eq1.true) c.requires.length)
