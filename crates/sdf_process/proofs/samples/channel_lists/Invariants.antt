use Rattle.std.proofs.Common.{◌≡◌, map}
use Rattle.std.specs.List.{range_with_len}
use Rattle.sdf_actor.specs.Wires.{lists as items_of}
use Rattle.sdf_process.specs.Output.{channel_samples_from}
use Rattle.sdf_process.proofs.samples.channel_lists.Given as goal

abbrev pub invariant-loop-channel : goal.invariant-loop-channel
invariant-loop-channel l = items_of l.all.items ≡
    map (channel_samples_from l.input l.from l.len) (range_with_len 0 l.channel)
