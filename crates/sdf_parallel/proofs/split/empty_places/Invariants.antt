use Rattle.std.proofs.Common.{◌≡◌, length}
use Rattle.sdf_parallel.specs.Parts.{AreResults}
use Rattle.sdf_parallel.proofs.split.empty_places.Given as goal

abbrev pub invariant-loop : goal.invariant-loop
invariant-loop g l = record {
  made : AreResults g.A.Actor.steps (g.E.PartIo.inputs l.io) (g.E.PartIo.makes l.io) l.split
      l.queue.bounds.items l.rest
      l.places.items;
  count : length l.places.items ≡ l.counter;
}
