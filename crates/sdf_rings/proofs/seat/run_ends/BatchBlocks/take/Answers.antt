use Rattle.std.proofs.Common.{slice_index, ◌∙◌, length, ap, arith}
use Rattle.sdf_rings.specs.Blocks.{start_at}
use Rattle.sdf_rings.specs.Ends.{Drew}
use Rattle.sdf_rings.proofs.RunEnds.{lone_fits, lone_end, lone_port}
use Rattle.sdf_rings.proofs.seat.run_ends.BatchBlocks.take.Goals as goal

pub take_block-requires : goal.take_block-requires
take_block-requires g c =
    let r = c.args.self.now in
    lone_fits (slice_index r.sizes.now) r.size r.many (length c.args.ends.now)
    _ (length c.args.taken.now) c.if-ends-eq1.true c.requires.ports.size_is c.requires.length
    (c.requires.known 0 c.index-ends-0.result (omega arith))

pub returns-then-ends-eq1 : goal.returns-then-ends-eq1
returns-then-ends-eq1 g c =
    let r = c.args.self.now in
    lone_end Drew c.args.ends.now c.index-ends-0.result c.take_block.new.end
    c.take_block.new.block _ c.if-ends-eq1.true c.take_block.ensures
    (lone_port (slice_index r.sizes.now) r.size r.many c.take_block.new.block
    (c.requires.ports.size_is ∙ ap (start_at (slice_index r.sizes.now)) c.if-ends-eq1.true) (omega arith))
