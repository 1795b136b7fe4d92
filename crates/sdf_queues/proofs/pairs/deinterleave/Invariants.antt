use Rattle.std.proofs.Common.{◌≡◌, take, slice_range}
use Rattle.sdf_node.specs.Many.{nth_block, joined}
use Rattle.sdf_queues.proofs.pairs.deinterleave.Given as goal

abbrev pub invariant-loop-i : goal.invariant-loop-i
invariant-loop-i g l = record {
  left : take l.i l.left ≡ joined (λ j. slice_range (nth_block 2 l.pairs j) 0 1) l.i;
  right : take l.i l.right ≡ joined (λ j. slice_range (nth_block 2 l.pairs j) 1 2) l.i;
}
