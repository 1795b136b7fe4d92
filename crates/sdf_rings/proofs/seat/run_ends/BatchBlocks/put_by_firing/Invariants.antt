use Rattle.std.proofs.Common.{slice_index, ◌≡◌, ◌-◌, ◌*◌}
use Rattle.sdf_node.specs.Many.{nth_block, joined}
use Rattle.sdf_rings.specs.Blocks.{block_of}
use Rattle.sdf_rings.specs.Ends.{GaveEach, HasRoomEach}
use Rattle.sdf_rings.proofs.seat.run_ends.BatchBlocks.put_by_firing.Given as goal

abbrev pub invariant-loop : goal.invariant-loop
invariant-loop g l = record {
  at : l.at ≡ l.self.size * l.counter;
  gave : GaveEach l.initial.ends l.ends (λ p. joined
      (λ i. block_of (slice_index l.self.sizes.now) p (nth_block l.self.size l.put i)) l.counter);
  room : HasRoomEach (λ i. (l.self.many - l.counter) * slice_index l.self.sizes.now i) l.ends;
}
