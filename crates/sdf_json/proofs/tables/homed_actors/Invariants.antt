use Rattle.std.proofs.Common.{◌≡◌, map}
use Rattle.serde_json.specs.View.{view}
use Rattle.sdf_json.specs.Values.{each_to}
use Rattle.sdf_json.specs.Tables.{homed_value}
use Rattle.sdf_json.proofs.tables.homed_actors.Given as goal

abbrev pub invariant-loop-actor : goal.invariant-loop-actor
invariant-loop-actor l = map view l.list.items ≡ each_to (homed_value l.design l.period l.table) l.actor
