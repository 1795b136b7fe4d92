use Rattle.std.proofs.Common.{◌≡◌, ◌<◌, ◌≤◌, ◌+◌, ℕ, ◌++◌, length, take, drop, slice_index, vec_len, vec_capacity}
use Rattle.std.specs.List.{sum_by}
use Rattle.sdf_queues.specs.Blocks.{samples, room, front, at_ports}
use Rattle.sdf_queues.proofs.blocks.take_block.Given as goal

abbrev pub invariant-loop-c : goal.invariant-loop-c
invariant-loop-c g l = record {
  block : l.block.items ≡ l.initial.block.items ++ front l.ports.sizes.now (take l.c-index l.ports.channels.now)
      l.initial.queues;
  len : vec_len l.block + sum_by (slice_index l.ports.sizes.now) (drop l.c-index l.ports.channels.now) ≤
      vec_capacity l.block;
  capacity : vec_capacity l.block ≡ vec_capacity l.initial.block;
  queues : (c : ℕ) → c < length l.initial.queues →
      samples l.queues c ≡ drop (at_ports (take l.c-index l.ports.channels.now) (slice_index l.ports.sizes.now c) c)
      (samples l.initial.queues c);
  rooms : (c : ℕ) → c < length l.initial.queues → room l.queues c ≡ room l.initial.queues c;
}
