use Rattle.sdf_filters.proofs.cost.Weights.+best.Given as goal

abbrev pub decreases-best : goal.decreases-best
decreases-best l = l.stages
