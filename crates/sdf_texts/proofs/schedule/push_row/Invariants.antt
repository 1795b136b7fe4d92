use Rattle.std.proofs.Common.{◌≡◌, ◌++◌, take, string_bytes}
use Rattle.std.specs.Prelude.{codes}
use Rattle.std.specs.List.{flat_map}
use Rattle.sdf_texts.specs.Schedules.{cell_text}
use Rattle.sdf_texts.proofs.schedule.push_row.Given as goal

abbrev pub invariant-loop-cell : goal.invariant-loop-cell
invariant-loop-cell l = string_bytes l.text ≡ string_bytes l.initial.text
    ++ flat_map (λ cell. codes " " ++ cell_text l.design cell) (take l.cell-index l.cells)
