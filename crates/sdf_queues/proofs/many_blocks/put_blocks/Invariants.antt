use Rattle.std.proofs.Common.{◌≡◌, ◌<◌, ◌+◌, ◌*◌, ℕ, ◌++◌, length, take, drop, slice_index}
use Rattle.std.specs.List.{sum_by}
use Rattle.sdf_actor.specs.Histories.{spread}
use Rattle.sdf_queues.specs.Blocks.{samples, room, dealt}
use Rattle.sdf_node.specs.Many.{joined}
use Rattle.sdf_queues.proofs.many_blocks.put_blocks.Given as goal

abbrev pub invariant-loop-c : goal.invariant-loop-c
invariant-loop-c g l = record {
  at : l.at + sum_by (slice_index l.ports.sizes.now) (drop l.c-index l.ports.channels.now) ≡ l.size;
  untouched : (c : ℕ) → c < length l.initial.queues →
      ((n : ℕ) → n < l.c-index → slice_index l.ports.channels.now n ≡ c → ⊥) →
      samples l.queues c ≡ samples l.initial.queues c;
  queues : (c : ℕ) → c < length l.initial.queues →
      samples l.queues c ++ joined (λ j. spread (slice_index l.ports.sizes.now) (drop l.c-index l.ports.channels.now)
      (drop l.at (take l.size (drop (j * l.size) l.block))) c) l.times ≡
      samples l.initial.queues c ++ dealt l.ports.sizes.now l.ports.channels.now l.size l.block c l.times;
  rooms : (c : ℕ) → c < length l.initial.queues → room l.queues c ≡ room l.initial.queues c;
}
