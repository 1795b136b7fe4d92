use Rattle.std.proofs.Common.{◌∙◌, pos, get_or, ap, subst, sym, w32, arith}
use Rattle.std.proofs.lemmas.Simd.{get_or-zip2}
use Rattle.sdf_kit.specs.Samples.{rescaled}
use Rattle.sdf_kit.specs.Dots.{AreLanes}
use Rattle.sdf_kit.proofs.Carrying.{sum_of}
use Rattle.sdf_kit.proofs.CarriedSums.{joined_are, joined_lanes}
use Rattle.sdf_kit.proofs.carries.rescale_carried.Goals as goal

pub returns-clause-lanes : goal.returns-clause-lanes
returns-clause-lanes c =
    subst (λ r. AreLanes w32 8 r)
    (sym (joined_are 8 c.args.carried.high c.args.carried.low c.args.shift c.requires.high.many c.requires.low.many
    c.requires.high.fits c.requires.shift c.requires.low_small c.requires.small))
    (joined_lanes 8 c.args.carried.high c.args.carried.low c.args.shift c.requires.high.many c.requires.low.many)

pub returns-clause-value : goal.returns-clause-value
returns-clause-value c l low =
    ap (λ r. get_or r l (pos 0))
    (joined_are 8 c.args.carried.high c.args.carried.low c.args.shift c.requires.high.many c.requires.low.many
    c.requires.high.fits c.requires.shift c.requires.low_small c.requires.small)
    ∙ get_or-zip2 (λ h lo. rescaled (sum_of h lo) c.args.shift) c.args.carried.high c.args.carried.low l (pos 0) (pos 0)
    (pos 0) (omega (arith, c.requires.high.many)) (omega (arith, c.requires.low.many))
