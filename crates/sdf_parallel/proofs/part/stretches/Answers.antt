use Rattle.std.proofs.Common.{◌≡◌, ℕ, ◌+◌, ◌-◌, ◌*◌, ◌≤◌, ◌<◌, ◌∙◌, [], ◌∷◌, ◌++◌, ap, sym, subst, arith, ⊎_elim}
use Rattle.std.specs.Int.{div_ceil}
use Rattle.std.proofs.lemmas.Bool.{cases_lt}
use Rattle.std.proofs.lemmas.Grind.{div_ceil_times}
use Rattle.sdf_parallel.specs.Parts.{AreStretches, first, next}
use Rattle.sdf_parallel.proofs.part.stretches.Goals as goal

-- an equal share of some periods is not 0
some : (all many : ℕ) → 0 < many → 0 < all → 0 < div_ceil all many
some all many parts more =
    ⊎_elim (λ none. let zero : div_ceil all many ≡ 0 = omega (arith, none) in
    let most : all ≤ 0 * many = subst (λ k. all ≤ k * many) zero (div_ceil_times all many parts).0 in
    absurd (omega (arith, more, most)))
    (λ l. omega (arith, l)) (cases_lt (div_ceil all many) 1)

pub loop-at-init : goal.loop-at-init
loop-at-init g c =
    let w = c.args.split in
    let m = c.in_ok-made.made in
    let one : c.push_reserved.new.self.items ≡ m ∷ [] =
    c.push_reserved.ensures.items ∙ ap (λ xs. xs ++ m ∷ []) c.in_ok-all.ensures.items in
    record {
      order = omega arith;
      within = omega (arith, c.min.ensures);
      left = c.in_ok-made.ensures.1;
      run = subst (λ xs. AreStretches g.A.Actor.steps w.net.now w.period.now.repetitions
          (g.E.PartIo.inputs c.args.io.now) (g.E.PartIo.makes c.args.io.now) c.args.begin.now c.args.part.from
          (c.args.part.from + c.min.result) xs c.in_ok-made.rest) (sym one)
          (first (c.args.part.from + c.min.result) m c.in_ok-made.rest (omega arith) c.in_ok-made.ensures.0);
    }

pub loop-at-preserved : goal.loop-at-preserved
loop-at-preserved g c =
    let w = c.args.split in
    let m = c.in_ok-made-2.made in
    let to = c.loop-at.at + c.min-in-loop-at.result in
    let longer : c.push_reserved-in-loop-at.new.self.items ≡ c.loop-at.all.items ++ m ∷ [] =
    c.push_reserved-in-loop-at.ensures.items ∙ ap (λ xs. xs ++ m ∷ []) c.in_ok-reserve.ensures.items in
    record {
      order = omega (arith, c.loop-at.invariant.order);
      within = omega (arith, c.min-in-loop-at.ensures, c.loop-at.invariant.within);
      left = c.in_ok-made-2.ensures.1;
      run = subst (λ xs. AreStretches g.A.Actor.steps w.net.now w.period.now.repetitions
          (g.E.PartIo.inputs c.args.io.now) (g.E.PartIo.makes c.args.io.now) c.args.begin.now c.args.part.from to xs
          c.in_ok-made-2.last) (sym longer)
          (next c.loop-at.at to c.loop-at.all.items m c.loop-at.rest c.in_ok-made-2.last c.loop-at.invariant.run
          (omega arith) c.in_ok-made-2.ensures.0);
    }

pub loop-at-smaller : goal.loop-at-smaller
loop-at-smaller g c = omega (
  arith,
  some (c.args.part.to - c.args.part.from) c.max-many.result (omega (arith, c.max-many.ensures))
      (omega (arith, c.loop-at-test.true, c.loop-at.invariant.order)),
  c.div_ceil-size.ensures,
  c.min-in-loop-at.ensures,
  c.loop-at-test.true,
)
