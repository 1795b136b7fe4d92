use Rattle.std.proofs.Common.{◌≡◌, map, drop}
use Rattle.sdf_similar.specs.Similar.{fewest_edits}
use Rattle.sdf_similar.proofs.fewest_edits.Given as goal

-- the fewest so far, and then those to the names that are left
abbrev pub invariant-loop-name : goal.invariant-loop-name
invariant-loop-name l =
    fewest_edits l.word l.fewest (map (λ name. name.now) (drop l.name-index l.names)) ≡
    fewest_edits l.word l.bound (map (λ name. name.now) l.names)
