use Rattle.sdf_graph.proofs.Shapes.{period_of}
use Rattle.sdf_graph.proofs.laws.graphs_have_periods.Goals as goal

pub returns : goal.returns
returns c = period_of
