use Rattle.std.proofs.Common.{◌≡◌, ◌∙◌, ap, get_or, map, of_z, to_z, pos, w32}
use Rattle.std.proofs.lemmas.Int.{to_z-of_z, SFits-int_wrap}
use Rattle.sdf_kit.specs.Dots.{wrap, dot}
use Rattle.sdf_kit.proofs.LaneSums.{sums_passed}
use Rattle.sdf_kit.proofs.dots.dot.Goals as goal

pub returns : goal.returns
returns c =
    let a = sums_passed c.args.h.now c.args.x.now c.sums-a.result c.sums-a.ensures in
    let same : to_z w32 (of_z w32 (wrap (dot c.args.h.now c.args.x.now))) ≡ wrap (dot c.args.h.now c.args.x.now) =
    to_z-of_z w32 (wrap (dot c.args.h.now c.args.x.now)) (SFits-int_wrap w32 (dot c.args.h.now c.args.x.now)) in
    ap (λ r. to_z w32 (of_z w32 (get_or (map (to_z w32) (map (of_z w32) r)) 0 (pos 0)))) c.totals.ensures
    ∙ (ap (λ z. to_z w32 (of_z w32 (to_z w32 (of_z w32 z)))) a.value ∙ (ap (λ z. to_z w32 (of_z w32 z)) same ∙ same))
