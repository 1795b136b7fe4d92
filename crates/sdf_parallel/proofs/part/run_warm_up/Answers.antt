use Rattle.std.proofs.Common.{[]}
use Rattle.sdf_actor.specs.Wires.{lists}
use Rattle.sdf_parallel.proofs.Warmed.{unfired, warmed}
use Rattle.sdf_parallel.proofs.part.run_warm_up.Goals as goal

pub run_stretch-requires-clause-begin : goal.run_stretch-requires-clause-begin
run_stretch-requires-clause-begin g c κs within = (
  [],
  0,
  unfired g.A.Actor.steps c.args.split.net.now c.args.split.period.now.repetitions [] c.in_ok-first.first
      (c.in_ok-first.ensures []),
)

pub returns : goal.returns
returns g c =
    let s = g.A.Actor.steps in
    let w = c.args.split in
    let n = w.net.now in
    let q = w.period.now.repetitions in
    warmed s n q (g.E.PartIo.inputs c.args.io.now) w.periods w.warm c.args.from
    c.requires.split.given c.requires.split.full c.requires.warm c.requires.within
    c.in_ok-first.first c.in_ok-first.ensures (lists c.in_ok-outputs.outputs.items) c.in_ok-outputs.rest
    c.in_ok-outputs.ensures
