use Rattle.std.proofs.Common.{slice_index}
use Rattle.sdf_rings.specs.Blocks.{block_of}
use Rattle.sdf_rings.specs.Ends.{Gave}
use Rattle.sdf_rings.proofs.Walks.{Walked}
use Rattle.sdf_rings.proofs.seat.ends.put_each.Given as goal

abbrev pub invariant-loop-i : goal.invariant-loop-i
invariant-loop-i g l = Walked Gave (slice_index l.sizes) (λ k. block_of (slice_index l.sizes) k l.put) l.initial.ends
    l.ends l.i l.at
