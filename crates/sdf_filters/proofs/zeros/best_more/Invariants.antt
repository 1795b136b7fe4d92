use Rattle.std.proofs.Common.{◌≤◌}
use Rattle.sdf_filters.proofs.zeros.best_more.Given as goal

abbrev pub invariant-loop-more : goal.invariant-loop-more
invariant-loop-more l = l.best ≤ 64
