use Rattle.std.proofs.Common.{◌∙◌, pos, get_or, ap, subst, sym, w32, arith}
use Rattle.sdf_kit.specs.Dots.{AreLanes}
use Rattle.sdf_kit.proofs.TileSums.{rescaled_are, rescaled_lanes, rescaled_at}
use Rattle.sdf_kit.proofs.eights.rescale_eight.Goals as goal

pub returns-clause-lanes : goal.returns-clause-lanes
returns-clause-lanes c =
    subst (λ r. AreLanes w32 8 r)
    (sym (rescaled_are 8 c.args.sums c.args.shift c.requires.sums.many c.requires.shift c.requires.small))
    (rescaled_lanes 8 c.args.sums c.args.shift c.requires.sums.many)

pub returns-clause-value : goal.returns-clause-value
returns-clause-value c l low =
    ap (λ r. get_or r l (pos 0))
    (rescaled_are 8 c.args.sums c.args.shift c.requires.sums.many c.requires.shift c.requires.small)
    ∙ rescaled_at c.args.sums c.args.shift l (omega (arith, c.requires.sums.many))
