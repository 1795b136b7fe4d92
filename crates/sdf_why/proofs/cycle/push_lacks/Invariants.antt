use Rattle.std.proofs.Common.{◌≡◌, ◌++◌, string_bytes, take}
use Rattle.std.specs.List.{flat_map}
use Rattle.toml.specs.View.{view}
use Rattle.sdf_why.specs.Cycles.{lack_told}
use Rattle.sdf_why.proofs.cycle.push_lacks.Given as goal

abbrev pub invariant-loop-link : goal.invariant-loop-link
invariant-loop-link l = string_bytes l.text ≡ string_bytes l.initial.text
    ++ flat_map (lack_told (view l.document) l.graph l.halts) (take l.link-index l.links)
