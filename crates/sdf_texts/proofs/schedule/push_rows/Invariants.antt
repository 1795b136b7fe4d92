use Rattle.std.proofs.Common.{◌≡◌, ◌++◌, take, string_bytes}
use Rattle.std.specs.List.{flat_map}
use Rattle.sdf_texts.specs.Schedules.{row_line}
use Rattle.sdf_texts.proofs.schedule.push_rows.Given as goal

abbrev pub invariant-loop-row : goal.invariant-loop-row
invariant-loop-row l = string_bytes l.text ≡ string_bytes l.initial.text
    ++ flat_map (row_line l.design) (take l.row l.table.rows)
