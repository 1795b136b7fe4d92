use Rattle.std.proofs.Common.{◌≡◌, ◌<◌, ℕ, length, take, drop, slice_index}
use Rattle.sdf_queues.specs.Blocks.{samples, room, at_ports}
use Rattle.sdf_queues.proofs.blocks.skip_fronts.Given as goal

abbrev pub invariant-loop-c : goal.invariant-loop-c
invariant-loop-c g l = record {
  queues : (c : ℕ) → c < length l.initial.queues →
      samples l.queues c ≡ drop (at_ports (take l.c-index l.ports.channels.now) (slice_index l.ports.sizes.now c) c)
      (samples l.initial.queues c);
  rooms : (c : ℕ) → c < length l.initial.queues → room l.queues c ≡ room l.initial.queues c;
}
