use Rattle.std.proofs.Common.{◌≡◌, ◌<◌, length}
use Rattle.std.specs.List.{All}
use Rattle.sdf_filters.proofs.order.tree_of.Given as goal

abbrev pub invariant-loop-turn : goal.invariant-loop-turn
invariant-loop-turn l = (length l.tree ≡ 2048) × All (λ turn. turn < l.many) l.tree

abbrev pub invariant-loop-back : goal.invariant-loop-back
invariant-loop-back l = (length l.tree ≡ 2048) × All (λ turn. turn < l.many) l.tree
