use Rattle.std.proofs.Common.{◌≡◌, ◌<◌, ℕ, ◌++◌, length, drop, slice_index}
use Rattle.std.specs.List.{sum_by}
use Rattle.sdf_actor.specs.Histories.{spread}
use Rattle.sdf_queues.specs.Blocks.{samples, room}
use Rattle.sdf_queues.proofs.blocks.put_block.Given as goal

abbrev pub invariant-loop-c : goal.invariant-loop-c
invariant-loop-c g l = record {
  len : length l.rest ≡ sum_by (slice_index l.ports.sizes.now) (drop l.c-index l.ports.channels.now);
  untouched : (c : ℕ) → c < length l.initial.queues →
      ((n : ℕ) → n < l.c-index → slice_index l.ports.channels.now n ≡ c → ⊥) →
      samples l.queues c ≡ samples l.initial.queues c;
  queues : (c : ℕ) → c < length l.initial.queues →
      samples l.queues c ++ spread (slice_index l.ports.sizes.now) (drop l.c-index l.ports.channels.now) l.rest c ≡
      samples l.initial.queues c ++ spread (slice_index l.ports.sizes.now) l.ports.channels.now l.initial.rest c;
  rooms : (c : ℕ) → c < length l.initial.queues → room l.queues c ≡ room l.initial.queues c;
}
