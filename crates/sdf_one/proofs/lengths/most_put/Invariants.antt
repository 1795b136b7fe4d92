use Rattle.sdf_graph.specs.Rates.{rates}
use Rattle.sdf_actor.specs.Graphs.{graph_of}
use Rattle.sdf_one.specs.Lengths.{IsMostPut}
use Rattle.sdf_one.proofs.lengths.most_put.Given as goal

abbrev pub invariant-loop-channel : goal.invariant-loop-channel
invariant-loop-channel g l =
    IsMostPut (rates (graph_of g.A.Actor.steps l.net)) l.repetitions l.channel-index l.most
