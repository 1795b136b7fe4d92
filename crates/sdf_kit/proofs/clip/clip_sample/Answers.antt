use Rattle.std.proofs.Common.{arith}
use Rattle.std.proofs.lemmas.Int.{ints, clamps}
use Rattle.sdf_kit.specs.Clip.{clipped}
use Rattle.sdf_kit.proofs.clip.clip_sample.Goals as goal

pub returns : goal.returns
unfolding clipped
returns c =
    let least = c.ranges.least.sfits in
    let greatest = c.ranges.greatest.sfits in
    let sample = c.ranges.sample.sfits in
    omega (arith, ints, clamps, c.max.ensures.value, c.min.ensures.value, least, greatest, sample)
