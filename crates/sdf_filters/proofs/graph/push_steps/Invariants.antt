use Rattle.std.proofs.Common.{◌≡◌, ◌++◌, string_bytes}
use Rattle.sdf_filters.specs.Graphs.{step_text, texts_to}
use Rattle.sdf_filters.proofs.graph.push_steps.Given as goal

abbrev pub invariant-loop-place : goal.invariant-loop-place
invariant-loop-place l = string_bytes l.text ≡ string_bytes l.initial.text
    ++ texts_to (step_text l.channels l.channel) l.place
