use Rattle.std.proofs.Common.{◌∙◌, ap, map, of_z, to_z, w32, refl}
use Rattle.sdf_kit.specs.Dots.{total}
use Rattle.sdf_kit.proofs.LaneTotals.{four_wrapped}
use Rattle.sdf_kit.proofs.LaneSums.{sums_passed}
use Rattle.sdf_kit.proofs.dots.dots.Goals as goal

pub returns : goal.returns
returns c =
    let a = sums_passed c.args.h.now c.args.x.now c.four_sums-sums.result.a c.four_sums-sums.ensures.a in
    let b = sums_passed c.args.h.now c.args.y.now c.four_sums-sums.result.b c.four_sums-sums.ensures.b in
    let d = sums_passed c.args.h.now c.args.z.now c.four_sums-sums.result.c c.four_sums-sums.ensures.c in
    let e = sums_passed c.args.h.now c.args.w.now c.four_sums-sums.result.d c.four_sums-sums.ensures.d in
    ap (λ r. map (to_z w32) (map (of_z w32) r)) c.totals.ensures ∙
    (four_wrapped (total (map (to_z w32) (map (of_z w32) c.four_sums-sums.result.a)))
    (total (map (to_z w32) (map (of_z w32) c.four_sums-sums.result.b)))
    (total (map (to_z w32) (map (of_z w32) c.four_sums-sums.result.c)))
    (total (map (to_z w32) (map (of_z w32) c.four_sums-sums.result.d)))
    ∙ rw (a.value, b.value, d.value, e.value) refl)
