use Rattle.std.proofs.Common.{◌≡◌, ◌++◌, map, take}
use Rattle.std.specs.List.{flat_map}
use Rattle.sdf_kinds.specs.Rows.{keys_view}
use Rattle.sdf_why.specs.Near.{key_names}
use Rattle.sdf_why.proofs.near.push_keys.Given as goal

abbrev pub invariant-loop-key : goal.invariant-loop-key
invariant-loop-key l = map (λ name. name.now) l.names.items ≡ map (λ name. name.now) l.initial.names.items
    ++ flat_map key_names (keys_view (take l.key-index l.keys))
