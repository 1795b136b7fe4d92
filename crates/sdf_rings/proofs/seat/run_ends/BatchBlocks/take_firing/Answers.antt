use Rattle.std.proofs.Common.{◌+◌, ◌-◌, slice_index, slice_index_or, subst, sym, arith}
use Rattle.std.proofs.lemmas.Slice.{between-put_mid}
use Rattle.sdf_rings.specs.Blocks.{block_of}
use Rattle.sdf_rings.specs.Ends.{Drew}
use Rattle.sdf_rings.proofs.seat.run_ends.BatchBlocks.take_firing.Goals as goal

pub returns-clause-drew : goal.returns-clause-drew
returns-clause-drew g c =
    let r = c.args.self.now in
    λ i d h.
    subst (λ b. Drew (slice_index_or c.args.ends.now i d) (slice_index_or c.take_each.new.ends i d)
    (block_of (slice_index r.sizes.now) i b))
    (sym (between-put_mid c.args.at (c.args.at + r.size - c.args.at) c.args.taken.now c.take_each.new.taken
    (c.args.at + r.size) (omega arith) (omega arith)))
    (c.take_each.ensures i d h)
