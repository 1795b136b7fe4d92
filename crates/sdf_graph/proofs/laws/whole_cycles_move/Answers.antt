use Rattle.sdf_graph.proofs.Cycles.{sum_to_cycles, sum_to_cycle, sum_to_steady}
use Rattle.sdf_graph.proofs.laws.whole_cycles_move.Goals as goal

pub returns : goal.returns
returns c = record { whole = sum_to_cycles; one = sum_to_cycle; constant = sum_to_steady }
