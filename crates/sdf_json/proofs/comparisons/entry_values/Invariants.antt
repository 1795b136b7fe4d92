use Rattle.std.proofs.Common.{◌≡◌, map, take}
use Rattle.serde_json.specs.View.{view}
use Rattle.sdf_json.specs.Comparisons.{entry_value}
use Rattle.sdf_json.proofs.comparisons.entry_values.Given as goal

abbrev pub invariant-loop-entry : goal.invariant-loop-entry
invariant-loop-entry l = map view l.list.items ≡ map entry_value (take l.entry-index l.entries)
