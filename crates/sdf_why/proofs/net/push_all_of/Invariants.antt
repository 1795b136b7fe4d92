use Rattle.std.proofs.Common.{◌≡◌, ◌++◌, string_bytes}
use Rattle.std.specs.List.{flat_map, range_with_len}
use Rattle.toml.specs.View.{view}
use Rattle.sdf_why.specs.Nets.{one_of}
use Rattle.sdf_why.proofs.net.push_all_of.Given as goal

abbrev pub invariant-loop-actor : goal.invariant-loop-actor
invariant-loop-actor l = string_bytes l.text ≡ string_bytes l.initial.text
    ++ flat_map (one_of l.kind l.key (view l.graph)) (range_with_len 0 l.actor)
