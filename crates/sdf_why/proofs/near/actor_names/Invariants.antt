use Rattle.std.proofs.Common.{◌≡◌, map}
use Rattle.std.specs.List.{flat_map, range_with_len}
use Rattle.toml.specs.View.{view}
use Rattle.sdf_why.specs.Near.{name_in}
use Rattle.sdf_why.proofs.near.actor_names.Given as goal

abbrev pub invariant-loop-actor : goal.invariant-loop-actor
invariant-loop-actor l =
    map (λ name. name.now) l.names.items ≡ flat_map (name_in (view l.graph)) (range_with_len 0 l.actor)
