use Rattle.std.proofs.Common.{◌≡◌, ◌++◌, string_bytes}
use Rattle.std.specs.List.{flat_map, range_with_len}
use Rattle.sdf_texts.specs.Schedules.{capacity_line}
use Rattle.sdf_texts.proofs.schedule.push_capacities.Given as goal

abbrev pub invariant-loop-link : goal.invariant-loop-link
invariant-loop-link l = string_bytes l.text ≡ string_bytes l.initial.text
    ++ flat_map (capacity_line l.design l.table.caps) (range_with_len 0 l.link)
