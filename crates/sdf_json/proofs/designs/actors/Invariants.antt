use Rattle.std.proofs.Common.{◌≡◌, map}
use Rattle.serde_json.specs.View.{view}
use Rattle.sdf_json.specs.Values.{each_to}
use Rattle.sdf_json.specs.Designs.{actor_value}
use Rattle.sdf_json.proofs.designs.actors.Given as goal

abbrev pub invariant-loop-actor : goal.invariant-loop-actor
invariant-loop-actor l = map view l.list.items ≡ each_to (actor_value l.design l.repetitions) l.actor
