use Rattle.std.proofs.Common.{◌≡◌, map}
use Rattle.serde_json.specs.View.{view}
use Rattle.sdf_json.specs.Values.{each_to}
use Rattle.sdf_json.specs.Tables.{capacity_value}
use Rattle.sdf_json.proofs.tables.capacities.Given as goal

abbrev pub invariant-loop-link : goal.invariant-loop-link
invariant-loop-link l = map view l.list.items ≡ each_to (capacity_value l.design l.table.caps) l.link
