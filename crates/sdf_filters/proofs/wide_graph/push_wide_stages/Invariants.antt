use Rattle.std.proofs.Common.{◌≡◌, ◌++◌, slice_get, string_bytes}
use Rattle.sdf_filters.specs.Graphs.{texts_to}
use Rattle.sdf_filters.specs.WideGraphs.{wide_stage_text}
use Rattle.sdf_filters.proofs.wide_graph.push_wide_stages.Given as goal

abbrev pub invariant-loop-place : goal.invariant-loop-place
invariant-loop-place l = string_bytes l.text ≡ string_bytes l.initial.text
    ++ texts_to (λ place. wide_stage_text l.channels l.channel place (slice_get l.stages place)) l.place
