use Rattle.std.proofs.Common.{◌≡◌, ℕ, ◌+◌, ◌-◌, ◌*◌, ◌≤◌, take, drop, sym, subst, arith, ⊎_elim}
use Rattle.std.proofs.lemmas.Grind.{common_steps}
use Rattle.std.proofs.lemmas.Bool.{cases_lt}
use Rattle.sdf_kit.specs.Stretches.{weight}
use Rattle.sdf_kit.proofs.tile_stretches.heaviest.Goals as goal

pub loop-vector-preserved : goal.loop-vector-preserved
loop-vector-preserved c v l = ⊎_elim
    (λ less. let before = c.loop-vector.invariant v less in grind (arith, common_steps, c.max-most.ensures, before))
    (λ over.
    let same : v ≡ c.loop-vector.vector = omega arith in
    let at : ℕ = c.loop-vector.vector * (16 * c.args.pairs) + 16 * c.args.pair in
    let cut : at + 16 - at ≡ 16 = omega arith in
    let here : weight (take 16 (drop at c.args.table.now)) ≤ c.max-most.result =
    subst (λ n. weight (take n (drop at c.args.table.now)) ≤ c.max-most.result) cut
    (grind (arith, common_steps, c.max-most.ensures, c.weight.ensures.is)) in
    subst (λ u. weight (take 16 (drop (u * (16 * c.args.pairs) + 16 * c.args.pair) c.args.table.now)) ≤
    c.max-most.result)
    (sym same) here)
    (cases_lt v c.loop-vector.vector)
