use Rattle.std.proofs.Common.{◌≡◌, ◌-◌, ◌≤◌, ◌<◌, ℕ, length, get_or}
use Rattle.sdf_parallel.specs.declared.part_workers.Worker.{Worker}
use Rattle.sdf_parallel.specs.Parts.{AreFinished, AreResults}
use Rattle.sdf_parallel.proofs.split.place_all.Given as goal

abbrev pub invariant-loop-i : goal.invariant-loop-i
invariant-loop-i g l = record {
  left : (k : ℕ) (d : Worker _ _ _) → l.i ≤ k → k < length l.workers →
      AreFinished g.A.Actor.steps (g.E.PartIo.inputs l.io) (g.E.PartIo.makes l.io) l.split l.queue.bounds.items
      l.rest (get_or l.workers k d).done.items;
  made : AreResults g.A.Actor.steps (g.E.PartIo.inputs l.io) (g.E.PartIo.makes l.io) l.split l.queue.bounds.items
      l.rest l.places;
  all : length l.places ≡ length l.queue.bounds.items - 1;
}
