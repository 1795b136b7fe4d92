use Rattle.sdf_graph.proofs.Cycles.{sum_to_more, sum_to_rises, sum_within}
use Rattle.sdf_graph.proofs.laws.sums_rise.Goals as goal

pub returns : goal.returns
returns c = record { one = sum_to_more; all = sum_to_rises; lists = sum_within }
