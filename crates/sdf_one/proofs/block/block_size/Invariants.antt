use Rattle.std.proofs.Common.{◌≡◌, take, slice_index}
use Rattle.std.specs.List.{sum_by}
use Rattle.sdf_one.proofs.block.block_size.Given as goal

abbrev pub invariant-loop-c : goal.invariant-loop-c
invariant-loop-c l = l.size ≡ sum_by (slice_index l.ports.sizes.now) (take l.c-index l.ports.channels.now)
