use Rattle.std.proofs.Common.{◌+◌, [], ◌∷◌, get_or, subst, sym, arith}
use Rattle.std.specs.List.{All}
use Rattle.std.proofs.lemmas.List.Elements.{All-append}
use Rattle.sdf_parallel.specs.Parts.{IsFinishedPart, IsPartResult}
use Rattle.sdf_parallel.proofs.Bounding.{in_order, not_first, within}
use Rattle.sdf_parallel.proofs.Places.{all_one}
use Rattle.sdf_parallel.proofs.part_workers.work.Goals as goal

pub run_part-made-requires-clause-order : goal.run_part-made-requires-clause-order
run_part-made-requires-clause-order g c = omega (
  arith,
  c.part-part.ensures.from,
  c.part-part.ensures.to,
  in_order c.args.split c.args.queue.now.bounds.items c.requires.queue c.in-Some.number c.in-Some.ensures,
)

pub run_part-made-requires-clause-within : goal.run_part-made-requires-clause-within
run_part-made-requires-clause-within g c = omega (
  arith,
  c.part-part.ensures.to,
  within c.args.split c.args.queue.now.bounds.items c.requires.queue (c.in-Some.number + 1) c.in-Some.ensures,
)

pub run_part-made-requires-clause-warm : goal.run_part-made-requires-clause-warm
run_part-made-requires-clause-warm g c κs inside some = omega (
  arith,
  c.requires.split.long,
  c.part-part.ensures.from,
  not_first c.args.split c.args.queue.now.bounds.items c.requires.queue c.in-Some.number c.in-Some.ensures
      (omega (arith, some, c.part-part.ensures.from)),
)

pub loop-preserved : goal.loop-preserved
loop-preserved g c =
    let s = g.A.Actor.steps in
    let inputs = g.E.PartIo.inputs c.args.io.now in
    let makes = g.E.PartIo.makes c.args.io.now in
    let bounds = c.args.queue.now.bounds.items in
    let rest = c.args.rest.now in
    let made = c.run_part-made.result in
    let is = IsFinishedPart s inputs makes c.args.split bounds rest in
    subst (All is) (sym c.push_reserved.ensures.items) (All-append is c.reserve.new.self.items (_ ∷ [])
    (subst (All is) (sym c.reserve.ensures.items) c.loop.invariant)
    (all_one is _ (
      c.in-Some.ensures,
      subst (λ k. IsPartResult s inputs makes c.args.split rest k (get_or bounds (c.in-Some.number + 1) 0) made)
          c.part-part.ensures.from
          (subst (λ k. IsPartResult s inputs makes c.args.split rest c.part-part.result.from k made)
          c.part-part.ensures.to
          c.run_part-made.ensures),
    )))
