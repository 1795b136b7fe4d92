use Rattle.std.proofs.Common.{◌≡◌, ◌++◌, string_bytes}
use Rattle.sdf_filters.specs.Graphs.{channel_links, texts_to}
use Rattle.sdf_filters.proofs.graph.push_all_links.Given as goal

abbrev pub invariant-loop-channel : goal.invariant-loop-channel
invariant-loop-channel l = string_bytes l.text ≡ string_bytes l.initial.text
    ++ texts_to (channel_links l.channels l.stages) l.channel
