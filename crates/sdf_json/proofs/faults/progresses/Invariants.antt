use Rattle.std.proofs.Common.{◌≡◌, map, take}
use Rattle.serde_json.specs.View.{view}
use Rattle.sdf_json.specs.Faults.{progress_value}
use Rattle.sdf_json.proofs.faults.progresses.Given as goal

abbrev pub invariant-loop-actor : goal.invariant-loop-actor
invariant-loop-actor l = map view l.list.items ≡ map progress_value (take l.actor-index l.actors)
