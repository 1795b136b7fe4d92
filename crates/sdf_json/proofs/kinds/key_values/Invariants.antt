use Rattle.std.proofs.Common.{◌≡◌, map, take}
use Rattle.serde_json.specs.View.{view}
use Rattle.sdf_kinds.specs.Rows.{keys_view}
use Rattle.sdf_json.specs.Kinds.{key_value}
use Rattle.sdf_json.proofs.kinds.key_values.Given as goal

abbrev pub invariant-loop-key : goal.invariant-loop-key
invariant-loop-key l = map view l.list.items ≡ map key_value (keys_view (take l.key-index l.keys))
