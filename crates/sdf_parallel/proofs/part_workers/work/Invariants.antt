use Rattle.sdf_parallel.specs.Parts.{AreFinished}
use Rattle.sdf_parallel.proofs.part_workers.work.Given as goal

abbrev pub invariant-loop : goal.invariant-loop
invariant-loop g l =
    AreFinished g.A.Actor.steps (g.E.PartIo.inputs l.io) (g.E.PartIo.makes l.io) l.split l.queue.bounds.items l.rest
    l.worker.done.items
