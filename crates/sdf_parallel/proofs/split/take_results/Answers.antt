use Rattle.std.proofs.Common.{◌≡◌, ◌<◌, ◌+◌, ◌-◌, ◌∙◌, ℕ, length, get_or, Ok, Err, Some, refl, sym}
use Rattle.std.proofs.Common.{subst, arith, get_or-set_other}
use Rattle.std.specs.Option.{IsSome}
use Rattle.std.proofs.lemmas.List.{length-set}
use Rattle.sdf_parallel.specs.Parts.{IsResult}
use Rattle.sdf_parallel.proofs.Bounding.{are_marks}
use Rattle.sdf_parallel.proofs.Cutting.{refused}
use Rattle.sdf_parallel.proofs.Growing.{Grown, grown, all_parts}
use Rattle.sdf_parallel.proofs.split.take_results.Goals as goal

pub loop-i-init : goal.loop-i-init
loop-i-init g c = record {
  left = λ k d low l. c.requires.made k d l;
  grown = record { none = λ z. c.new-all.ensures.items; some = λ some. absurd (omega (arith, some)) };
}

pub returns-in_err-made : goal.returns-in_err-made
returns-in_err-made g c =
    let s = g.A.Actor.steps in
    let w = c.args.split in
    let inputs = g.E.PartIo.inputs c.args.io.now in
    let makes = g.E.PartIo.makes c.args.io.now in
    let i : ℕ = c.loop-i.i in
    let v = c.index-places-i.result in
    let at : get_or c.loop-i.places i v ≡ Err c.in_err-made.field-0.0 =
    sym c.replace-part.ensures.value ∙ c.in_err-made.was in
    refused c.from_residual.result _ c.in_err-made.field-0.0
    (subst (IsResult s inputs makes w c.args.queue.now.bounds.items c.args.rest.now i) at
    (c.loop-i.invariant.left i v (omega arith) (omega (arith, c.loop-i-test.true))))
    c.from_residual.ensures.1

pub loop-i-preserved : goal.loop-i-preserved
loop-i-preserved g c =
    let s = g.A.Actor.steps in
    let w = c.args.split in
    let inputs = g.E.PartIo.inputs c.args.io.now in
    let makes = g.E.PartIo.makes c.args.io.now in
    let bounds = c.args.queue.now.bounds.items in
    let rest = c.args.rest.now in
    let i : ℕ = c.loop-i.i in
    let v = c.index-places-i.result in
    let was = c.loop-i.places in
    let new = c.replace-part.new.dest in
    let m = c.in_ok-made.field-0 in
    let at : get_or was i v ≡ Ok m =
    sym c.replace-part.ensures.value ∙ c.in_ok-made.was in
    let part = subst (IsResult s inputs makes w bounds rest i) at
    (c.loop-i.invariant.left i v (omega arith) (omega (arith, c.loop-i-test.true))) in
    record {
      left = λ k d low l. subst (IsResult s inputs makes w bounds rest k)
          (sym (get_or-set_other was i k new d (λ same. omega (arith, same))))
          (c.loop-i.invariant.left k d (omega arith) (omega (arith, l, length-set was i new)));
      grown = subst (λ xs. Grown s inputs makes w bounds rest (i + 1) xs (Some m.rest))
          (sym c.in_ok-append.ensures.items)
          (grown s inputs makes w c.requires.split
          (c.nets_have_periods.ensures w.period.now c.requires.split.period) rest bounds
          (are_marks w bounds c.requires.queue) i
          (omega (arith, c.loop-i-test.true, c.loop-i.auto.places, c.requires.all))
          c.loop-i.all.items c.loop-i.last c.loop-i.invariant.grown m.made.items m.rest part);
    }

pub unwrap-requires : goal.unwrap-requires
unwrap-requires g c =
    let w = c.args.split in
    let some : 0 < c.loop-i.i =
    omega (arith, c.loop-i-test.false, c.loop-i.auto.places, c.requires.all, c.requires.queue.some) in
    let end = c.loop-i.invariant.grown.some some in
    subst IsSome (sym end.1) refl

pub returns : goal.returns
returns g c =
    let s = g.A.Actor.steps in
    let w = c.args.split in
    let inputs = g.E.PartIo.inputs c.args.io.now in
    let makes = g.E.PartIo.makes c.args.io.now in
    let bounds = c.args.queue.now.bounds.items in
    let all : c.loop-i.i ≡ length bounds - 1 =
    omega (arith, c.loop-i-test.false, c.loop-i.auto.i-end, c.loop-i.auto.places, c.requires.all) in
    all_parts s inputs makes w c.requires.split
    (c.nets_have_periods.ensures w.period.now c.requires.split.period) c.args.rest.now bounds
    (are_marks w bounds c.requires.queue) c.loop-i.i all
    c.loop-i.all.items c.loop-i.last c.unwrap.result c.unwrap.ensures c.loop-i.invariant.grown
