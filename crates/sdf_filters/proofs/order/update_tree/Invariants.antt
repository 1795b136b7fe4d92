use Rattle.std.proofs.Common.{◌+◌, ◌<◌}
use Rattle.std.specs.List.{All}
use Rattle.sdf_filters.proofs.order.update_tree.Given as goal

abbrev pub invariant-loop-node : goal.invariant-loop-node
invariant-loop-node l =
    (l.node < l.way.turns + l.way.turns)
    × All (λ turn. turn < l.way.turns) l.tree

abbrev pub decreases-loop-node : goal.decreases-loop-node
decreases-loop-node l = l.node
