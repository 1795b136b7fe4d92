use Rattle.std.proofs.Common.{◌≡◌, drop}
use Rattle.sdf_graph.specs.Rates.{cycle_length}
use Rattle.sdf_graph.proofs.channel.cycle_length.Given as goal

abbrev pub invariant-loop-channel : goal.invariant-loop-channel
invariant-loop-channel l = cycle_length (drop l.channel-index l.channels) l.actor ≡ cycle_length l.channels l.actor
