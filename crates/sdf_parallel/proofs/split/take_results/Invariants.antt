use Rattle.std.proofs.Common.{◌≤◌, ◌<◌, ℕ, length, get_or}
use Rattle.std.specs.Prelude.{Result}
use Rattle.sdf_queues.specs.declared.fault.RunFault.{RunFault}
use Rattle.sdf_parallel.specs.declared.part.PartResult.{PartResult}
use Rattle.sdf_parallel.specs.Parts.{IsResult}
use Rattle.sdf_parallel.proofs.Growing.{Grown}
use Rattle.sdf_parallel.proofs.split.take_results.Given as goal

abbrev pub invariant-loop-i : goal.invariant-loop-i
invariant-loop-i g l = record {
  left : (k : ℕ) (d : Result (PartResult _ _ _) RunFault) → l.i ≤ k → k < length l.places →
      IsResult g.A.Actor.steps (g.E.PartIo.inputs l.io) (g.E.PartIo.makes l.io) l.split l.queue.bounds.items
      l.rest k
      (get_or l.places k d);
  grown : Grown g.A.Actor.steps (g.E.PartIo.inputs l.io) (g.E.PartIo.makes l.io) l.split l.queue.bounds.items
      l.rest l.i
      l.all.items l.last;
}
