use Rattle.std.proofs.Common.{◌≡◌, map, take}
use Rattle.serde_json.specs.View.{view}
use Rattle.sdf_json.specs.Values.{natural}
use Rattle.sdf_json.proofs.analyses.loads.Given as goal

abbrev pub invariant-loop-worker : goal.invariant-loop-worker
invariant-loop-worker l = map view l.list.items ≡ map natural (take l.worker l.figures.loads)
