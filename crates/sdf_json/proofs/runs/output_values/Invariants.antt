use Rattle.std.proofs.Common.{◌≡◌, map, take}
use Rattle.serde_json.specs.View.{view}
use Rattle.sdf_json.specs.Runs.{output_value}
use Rattle.sdf_json.proofs.runs.output_values.Given as goal

abbrev pub invariant-loop-output : goal.invariant-loop-output
invariant-loop-output l = map view l.list.items ≡ map output_value (take l.output-index l.outputs)
