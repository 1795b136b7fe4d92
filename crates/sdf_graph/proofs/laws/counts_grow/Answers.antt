use Rattle.sdf_graph.proofs.Greedy.{times_same, times_other, times_within}
use Rattle.sdf_graph.proofs.laws.counts_grow.Goals as goal

pub returns : goal.returns
returns c = record { last = times_same; others = times_other; front = times_within }
