use Rattle.std.proofs.Common.{◌∙◌, pos, get_or, ap, w32}
use Rattle.sdf_kit.proofs.LaneTotals.{same_lanes}
use Rattle.sdf_kit.proofs.tiles.put_carried.Goals as goal

pub returns-clause-done : goal.returns-clause-done
returns-clause-done c l low =
    c.put_eight.ensures.done l low
    ∙ (ap (λ s. get_or s l (pos 0)) (same_lanes w32 c.rescale_carried.result c.rescale_carried.ensures.lanes.fits)
    ∙ c.rescale_carried.ensures.value l low)
