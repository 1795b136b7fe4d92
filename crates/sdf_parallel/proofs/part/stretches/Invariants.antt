use Rattle.std.proofs.Common.{◌-◌, ◌≤◌}
use Rattle.sdf_warm_up.specs.Laws.{WasLeft}
use Rattle.sdf_parallel.specs.Parts.{AreStretches}
use Rattle.sdf_parallel.proofs.part.stretches.Given as goal

abbrev pub invariant-loop-at : goal.invariant-loop-at
invariant-loop-at g l = record {
  order : l.from ≤ l.at;
  within : l.at ≤ l.to;
  left : WasLeft g.A.Actor.steps l.split.net.now l.split.period.now.repetitions l.rest;
  run : AreStretches g.A.Actor.steps l.split.net.now l.split.period.now.repetitions (g.E.PartIo.inputs l.io)
      (g.E.PartIo.makes l.io) l.begin l.from l.at l.all.items l.rest;
}

abbrev pub decreases-loop-at : goal.decreases-loop-at
decreases-loop-at g l = l.to - l.at
