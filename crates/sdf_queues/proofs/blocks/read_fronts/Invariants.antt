use Rattle.std.proofs.Common.{◌≡◌, ◌≤◌, ◌+◌, ◌++◌, take, drop, slice_index, vec_len, vec_capacity}
use Rattle.std.specs.List.{sum_by}
use Rattle.sdf_queues.specs.Blocks.{front}
use Rattle.sdf_queues.proofs.blocks.read_fronts.Given as goal

abbrev pub invariant-loop-c : goal.invariant-loop-c
invariant-loop-c g l = record {
  block : l.block.items ≡ l.initial.block.items ++ front l.ports.sizes.now
      (take l.c-index l.ports.channels.now) l.queues;
  len : vec_len l.block + sum_by (slice_index l.ports.sizes.now) (drop l.c-index l.ports.channels.now) ≤
      vec_capacity l.block;
  capacity : vec_capacity l.block ≡ vec_capacity l.initial.block;
}
