use Rattle.std.proofs.Common.{◌≡◌, ◌<◌, ◌+◌, ◌*◌, ℕ, length, slice_index, slice_index_or, vec_len}
use Rattle.sdf_graph.specs.Rates.{rates}
use Rattle.sdf_actor.specs.Nets.{wire}
use Rattle.sdf_actor.specs.Graphs.{graph_of}
use Rattle.sdf_queues.specs.Blocks.{nothing}
use Rattle.sdf_queues.proofs.rooms.renew_queues.Given as goal

abbrev pub invariant-loop-c : goal.invariant-loop-c
invariant-loop-c g l = record {
  len : vec_len l.queues ≡ l.c;
  each : (k : ℕ) → k < l.c → slice_index_or l.queues.items k nothing ≡ record {
    samples = (wire l.net k).initial;
    room = length (wire l.net k).initial + l.periods
        * (rates (graph_of g.A.Actor.steps l.net)).produced k
        (slice_index l.repetitions ((rates (graph_of g.A.Actor.steps l.net)).source k));
  };
}
