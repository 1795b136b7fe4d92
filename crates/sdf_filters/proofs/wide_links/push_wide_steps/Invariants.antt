use Rattle.std.proofs.Common.{◌≡◌, ◌++◌, string_bytes}
use Rattle.sdf_filters.specs.Graphs.{texts_to}
use Rattle.sdf_filters.specs.WideGraphs.{wide_step}
use Rattle.sdf_filters.proofs.wide_links.push_wide_steps.Given as goal

abbrev pub invariant-loop-place : goal.invariant-loop-place
invariant-loop-place l = string_bytes l.text ≡ string_bytes l.initial.text
    ++ texts_to (wide_step l.channels l.channel) l.place
