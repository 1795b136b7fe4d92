use Rattle.std.proofs.Common.{◌≤◌, ◌<◌, ℕ, length, slice_index}
use Rattle.sdf_queues.specs.Blocks.{samples}
use Rattle.sdf_one.proofs.block.hold_blocks.Given as goal

abbrev pub invariant-loop-c : goal.invariant-loop-c
invariant-loop-c g l = (n : ℕ) → n < l.c-index →
    slice_index l.sizes (slice_index l.ports n) ≤ length (samples l.queues (slice_index l.ports n))
