use Rattle.std.proofs.Common.{◌≡◌, get_or, vec_capacity}
use Rattle.sdf_graph.specs.Rates.{rates}
use Rattle.sdf_sched.proofs.Runnable.{IsCollected}
use Rattle.sdf_sched.proofs.class_s.collect_candidates.Given as goal

abbrev pub invariant-loop-actor : goal.invariant-loop-actor
invariant-loop-actor l = record {
  list : IsCollected (rates l.counts.graph) (λ a. get_or l.firings a 0) (λ a. get_or l.counts.fired a 0) l.actor
      l.candidates.runnable.items l.candidates.awaited.items;
  capacity : vec_capacity l.candidates.runnable ≡ vec_capacity l.initial.candidates.runnable;
}
