use Rattle.std.proofs.Common.{◌≤◌, ◌∙◌, pos, get_or, unsigned_abs, ap, subst, sym, w32}
use Rattle.sdf_kit.specs.Samples.{rescaled}
use Rattle.sdf_kit.proofs.LaneTotals.{same_lanes}
use Rattle.sdf_kit.proofs.tiles.put_sums.Goals as goal

pub rescale_eight-requires-clause-small : goal.rescale_eight-requires-clause-small
rescale_eight-requires-clause-small c l low =
    subst (λ s. unsigned_abs (get_or s l (pos 0)) ≤ 2147467263) (sym (same_lanes w32 c.args.sums c.requires.sums.fits))
    (c.requires.small l low)

pub returns-clause-done : goal.returns-clause-done
returns-clause-done c l low =
    c.put_eight.ensures.done l low
    ∙ (ap (λ s. get_or s l (pos 0)) (same_lanes w32 c.rescale_eight.result c.rescale_eight.ensures.lanes.fits)
    ∙ (c.rescale_eight.ensures.value l low
    ∙ ap (λ s. rescaled (get_or s l (pos 0)) c.args.shift) (same_lanes w32 c.args.sums c.requires.sums.fits)))
