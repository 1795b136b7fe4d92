use Rattle.std.proofs.Common.{slice_index}
use Rattle.sdf_rings.specs.Ends.{Gave}
use Rattle.sdf_rings.specs.BatchBlocks.{port_blocks}
use Rattle.sdf_rings.proofs.Walks.{Walked}
use Rattle.sdf_rings.proofs.seat.run_ends.BatchBlocks.put_by_port.Given as goal

abbrev pub invariant-loop-i : goal.invariant-loop-i
invariant-loop-i g l = Walked Gave (slice_index l.self.sizes.now) (port_blocks l.self l.put) l.initial.ends l.ends l.i
    l.at
