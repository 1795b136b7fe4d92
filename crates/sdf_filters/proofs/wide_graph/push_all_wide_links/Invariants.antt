use Rattle.std.proofs.Common.{◌≡◌, ◌++◌, string_bytes}
use Rattle.sdf_filters.specs.Graphs.{texts_to}
use Rattle.sdf_filters.specs.WideGraphs.{wide_links}
use Rattle.sdf_filters.proofs.wide_graph.push_all_wide_links.Given as goal

abbrev pub invariant-loop-channel : goal.invariant-loop-channel
invariant-loop-channel l = string_bytes l.text ≡ string_bytes l.initial.text
    ++ texts_to (wide_links l.channels l.stages) l.channel
