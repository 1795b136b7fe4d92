use Rattle.std.proofs.Common.{subst, rules, arith}
use Rattle.std.proofs.iter.Serving.{serving}
use Rattle.sdf_parallel.specs.Parts.{AreFinished}
use Rattle.sdf_parallel.proofs.split.run_parts.Goals as goal

pub for_each_beside-done-requires-clause-accepts : goal.for_each_beside-done-requires-clause-accepts
for_each_beside-done-requires-clause-accepts g c κs within = λ i p l is. (
  (c.requires.split, c.requires.rest, c.requires.queue),
  (
    search rules,
    grind serving steps 60000000,
    grind serving steps 60000000,
    search rules,
    search rules,
    search rules,
    search rules,
  ),
)

pub gather-requires-clause-done : goal.gather-requires-clause-done
gather-requires-clause-done g c κs within = λ i d l.
    let at = c.for_each_beside-done.ensures.each i d (omega (arith, l, c.for_each_beside-done.auto.s)) in
    subst (λ u. AreFinished g.A.Actor.steps (g.E.PartIo.inputs c.args.io.now)
    (g.E.PartIo.makes c.args.io.now) c.args.split
    c.args.queue.now.bounds.items c.args.rest.now u.done.items) at.1.left at.1.call
