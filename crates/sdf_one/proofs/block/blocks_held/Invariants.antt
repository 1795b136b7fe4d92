use Rattle.std.proofs.Common.{◌<◌, ◌≤◌, ◌*◌, ℕ, length, slice_index}
use Rattle.sdf_queues.specs.Blocks.{samples, HoldBlocks}
use Rattle.sdf_one.proofs.block.blocks_held.Given as goal

abbrev pub invariant-loop-c : goal.invariant-loop-c
invariant-loop-c g l = record {
  some : HoldBlocks l.ports l.sizes l.queues → 0 < l.most → 0 < l.times;
  within : l.times ≤ l.most;
  held : (n : ℕ) → n < l.c-index → l.times * slice_index l.sizes (slice_index l.ports n) ≤
      length (samples l.queues (slice_index l.ports n));
}
