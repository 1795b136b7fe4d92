use Rattle.sdf_parallel.specs.Parts.{AreFinished, AreResults}
use Rattle.sdf_parallel.proofs.split.place.Given as goal

abbrev pub invariant-loop : goal.invariant-loop
invariant-loop g l = record {
  done : AreFinished g.A.Actor.steps (g.E.PartIo.inputs l.io) (g.E.PartIo.makes l.io) l.split l.queue.bounds.items
      l.rest l.done.items;
  made : AreResults g.A.Actor.steps (g.E.PartIo.inputs l.io) (g.E.PartIo.makes l.io) l.split l.queue.bounds.items
      l.rest l.places;
}
