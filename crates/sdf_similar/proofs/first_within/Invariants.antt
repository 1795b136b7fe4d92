use Rattle.std.proofs.Common.{◌≡◌, map, drop}
use Rattle.sdf_similar.specs.Similar.{first_within}
use Rattle.sdf_similar.proofs.first_within.Given as goal

abbrev pub invariant-loop-name : goal.invariant-loop-name
invariant-loop-name l =
    first_within l.word l.edits (map (λ name. name.now) (drop l.name-index l.names)) ≡
    first_within l.word l.edits (map (λ name. name.now) l.names)
