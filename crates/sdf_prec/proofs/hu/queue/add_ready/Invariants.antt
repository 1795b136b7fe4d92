use Rattle.std.proofs.Common.{◌≡◌, length}
use Rattle.std.specs.Prelude.{slice_index}
use Rattle.sdf_graph.specs.Rates.{rates}
use Rattle.sdf_prec.specs.Numbers.{number}
use Rattle.sdf_prec.specs.Floor.{IsNextReady}
use Rattle.sdf_prec.specs.Queued.{IsQueueOf, IsUnmarked}
use Rattle.sdf_prec.proofs.Markings.{many}
use Rattle.sdf_prec.proofs.hu.queue.add_ready.Given as goal

abbrev pub invariant-loop-actor : goal.invariant-loop-actor
invariant-loop-actor l = record {
  queue : IsQueueOf (number l.levels)
      (IsNextReady (rates l.counts.graph) (slice_index l.firings) (slice_index l.counts.fired) (slice_index l.started))
      (IsUnmarked l.marks) l.queue.items;
  same : length l.marks ≡ length l.initial.marks;
}

abbrev pub decreases-loop-actor : goal.decreases-loop-actor
decreases-loop-actor l = many l.marks
