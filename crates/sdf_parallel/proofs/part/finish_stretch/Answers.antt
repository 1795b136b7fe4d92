use Rattle.std.proofs.Common.{◌-◌, subst}
use Rattle.sdf_actor.specs.Wires.{lists}
use Rattle.sdf_warm_up.proofs.Theorems.{runs_leave_states}
use Rattle.sdf_parallel.specs.Parts.{read_by}
use Rattle.sdf_parallel.proofs.Cutting.{are_full}
use Rattle.sdf_parallel.proofs.part.finish_stretch.Goals as goal

pub returns : goal.returns
returns g c =
    let s = g.A.Actor.steps in
    let w = c.args.split in
    let n = w.net.now in
    let q = w.period.now.repetitions in
    let inputs = g.E.PartIo.inputs c.args.io.now in
    let from = c.args.stretch.from in
    let to = c.args.stretch.to in
    let on = lists c.in_ok-outputs.outputs.items in (
      record {
        outputs = on;
        goes = c.in_ok-outputs.ensures;
        becomes = subst (λ xs. g.E.PartIo.makes c.args.io.now (to - from) (lists xs) c.in_ok-made.made)
            c.deref.ensures.value c.in_ok-made.ensures;
      },
      runs_leave_states s n q (to - from) (read_by n q inputs from to) on c.args.begin.now c.in_ok-outputs.rest
          c.requires.begin c.in_ok-outputs.ensures
          (are_full n q inputs w.periods c.requires.split.given c.requires.split.full from to c.requires.order
          c.requires.within),
    )
