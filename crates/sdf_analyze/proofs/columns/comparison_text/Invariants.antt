use Rattle.std.proofs.Common.{◌≡◌, ◌++◌, take, string_bytes}
use Rattle.std.specs.List.{flat_map}
use Rattle.sdf_analyze.specs.Columns.{entry_line}
use Rattle.sdf_analyze.proofs.columns.comparison_text.Given as goal

abbrev pub invariant-loop-entry : goal.invariant-loop-entry
invariant-loop-entry l = string_bytes l.text ≡ string_bytes l.initial.text
    ++ flat_map (entry_line l.entries) (take l.entry-index l.entries)
