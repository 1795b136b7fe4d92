use Rattle.std.proofs.Common.{◌≡◌, ◌++◌, string_bytes}
use Rattle.std.specs.List.{flat_map, range_with_len}
use Rattle.toml.specs.View.{view}
use Rattle.sdf_why.specs.More.{unlinked_told}
use Rattle.sdf_why.proofs.more.push_all_unlinked.Given as goal

abbrev pub invariant-loop-actor : goal.invariant-loop-actor
invariant-loop-actor l = string_bytes l.text ≡ string_bytes l.initial.text
    ++ flat_map (unlinked_told (view l.tables) l.marked) (range_with_len 0 l.actor)
