use Rattle.sdf_graph.proofs.Least.{one_least_period}
use Rattle.sdf_graph.proofs.laws.one_least_period.Goals as goal

pub returns : goal.returns
returns c = one_least_period
