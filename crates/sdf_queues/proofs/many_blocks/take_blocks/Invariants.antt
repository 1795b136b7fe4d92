use Rattle.std.proofs.Common.{◌≡◌, ◌<◌, ◌+◌, ◌*◌, ℕ, length, take, drop, slice_index}
use Rattle.std.specs.List.{sum_by}
use Rattle.sdf_queues.specs.Blocks.{samples, room, at_ports, front_at}
use Rattle.sdf_node.specs.Many.{nth_block}
use Rattle.sdf_queues.proofs.many_blocks.take_blocks.Given as goal

abbrev pub invariant-loop-c : goal.invariant-loop-c
invariant-loop-c g l = record {
  at : l.at + sum_by (slice_index l.ports.sizes.now) (drop l.c-index l.ports.channels.now) ≡ l.size;
  blocks : (i : ℕ) → i < l.times → take l.at (nth_block l.size l.blocks i) ≡
      front_at l.ports.sizes.now (take l.c-index l.ports.channels.now) l.initial.queues i;
  queues : (c : ℕ) → c < length l.initial.queues → samples l.queues c ≡
      drop (at_ports (take l.c-index l.ports.channels.now) (l.times * slice_index l.ports.sizes.now c) c)
      (samples l.initial.queues c);
  rooms : (c : ℕ) → c < length l.initial.queues → room l.queues c ≡ room l.initial.queues c;
}
