use Rattle.std.proofs.Common.{◌≡◌, map, take}
use Rattle.serde_json.specs.View.{view}
use Rattle.sdf_json.specs.Kinds.{kind_value}
use Rattle.sdf_json.proofs.kinds.kind_values.Given as goal

abbrev pub invariant-loop-kind : goal.invariant-loop-kind
invariant-loop-kind l = map view l.list.items ≡ map kind_value (take l.kind-index l.all)
