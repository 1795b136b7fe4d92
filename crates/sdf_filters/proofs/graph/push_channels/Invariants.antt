use Rattle.std.proofs.Common.{◌≡◌, ◌++◌, string_bytes}
use Rattle.sdf_filters.specs.Graphs.{channel_actors, texts_to}
use Rattle.sdf_filters.proofs.graph.push_channels.Given as goal

abbrev pub invariant-loop-channel : goal.invariant-loop-channel
invariant-loop-channel l = string_bytes l.text ≡ string_bytes l.initial.text
    ++ texts_to (channel_actors l.channels l.stages) l.channel
