use Rattle.sdf_graph.proofs.Cycles.{sum_to_small, sum_to_anew}
use Rattle.sdf_graph.proofs.laws.cycles_begin_anew.Goals as goal

pub returns : goal.returns
returns c = record { small = sum_to_small; anew = sum_to_anew }
