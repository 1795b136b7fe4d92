use Rattle.std.proofs.Common.{◌∙◌, ap, of_z, to_z, w64}
use Rattle.std.proofs.lemmas.Int.{to_z-of_z}
use Rattle.sdf_kit.specs.Dots.{dot}
use Rattle.sdf_kit.proofs.LaneSums.{stretch_total, stretch_fits}
use Rattle.sdf_kit.proofs.dots.stretch_dot.Goals as goal

pub returns : goal.returns
returns c =
    ap (λ z. to_z w64 (of_z w64 z)) (c.wide_totals.ensures.a ∙ stretch_total c.args.h.now c.args.x.now c.sums-a.result
    c.sums-a.ensures c.requires.stretch) ∙ to_z-of_z w64 (dot c.args.h.now c.args.x.now)
    (stretch_fits c.args.h.now c.args.x.now c.sums-a.result c.sums-a.ensures c.requires.stretch)
