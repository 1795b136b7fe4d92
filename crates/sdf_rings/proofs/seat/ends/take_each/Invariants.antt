use Rattle.std.proofs.Common.{slice_index}
use Rattle.sdf_rings.specs.Blocks.{block_of}
use Rattle.sdf_rings.specs.Ends.{Drew}
use Rattle.sdf_rings.proofs.Walks.{Walked}
use Rattle.sdf_rings.proofs.seat.ends.take_each.Given as goal

abbrev pub invariant-loop-i : goal.invariant-loop-i
invariant-loop-i g l = Walked Drew (slice_index l.sizes) (λ k. block_of (slice_index l.sizes) k l.taken) l.initial.ends
    l.ends l.i l.at
