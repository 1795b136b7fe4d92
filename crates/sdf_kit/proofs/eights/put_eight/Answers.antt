use Rattle.std.proofs.Common.{◌+◌, ◌∙◌, pos, get_or, w32, ap, arith, ⊎_elim}
use Rattle.std.specs.Simd.Lanes.{put_chunk}
use Rattle.std.proofs.lemmas.Simd.{get_or-put_chunk_at, get_or-put_chunk_above, get_or-put_chunk_below}
use Rattle.sdf_kit.proofs.LaneTotals.{same_lanes}
use Rattle.sdf_kit.proofs.eights.put_eight.Goals as goal

pub returns-clause-done : goal.returns-clause-done
returns-clause-done c l low =
    ap (λ ys. get_or (put_chunk c.args.at c.args.put.now ys) (c.args.at + l) (pos 0))
    (same_lanes w32 c.args.samples c.requires.samples.fits)
    ∙ get_or-put_chunk_at c.args.at c.args.put.now c.args.samples l (pos 0)
    (omega (arith, c.requires.samples.many)) (omega (arith, c.requires.samples.many, c.requires.room))

pub returns-clause-others : goal.returns-clause-others
returns-clause-others c n apart =
    ap (λ ys. get_or (put_chunk c.args.at c.args.put.now ys) n (pos 0))
    (same_lanes w32 c.args.samples c.requires.samples.fits)
    ∙ ⊎_elim (λ before. get_or-put_chunk_below c.args.at c.args.put.now c.args.samples n (pos 0) before)
    (λ after. get_or-put_chunk_above c.args.at c.args.put.now c.args.samples n (pos 0)
    (omega (arith, c.requires.samples.many))) apart
