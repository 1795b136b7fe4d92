use Rattle.std.proofs.Common.{◌≡◌, map, take, slice_index}
use Rattle.sdf_queues.proofs.sizes.at_channels.Given as goal

abbrev pub invariant-loop-channel : goal.invariant-loop-channel
invariant-loop-channel l = l.row.items ≡ map (slice_index l.sizes) (take l.channel-index l.channels)
