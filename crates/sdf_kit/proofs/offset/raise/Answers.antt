use Rattle.std.proofs.Common.{◌+ℤ◌, ℤ, arith}
use Rattle.std.proofs.lemmas.Int.{ints, clamps}
use Rattle.sdf_kit.specs.Samples.{saturated}
use Rattle.sdf_kit.proofs.Settling.{clamp_is}
use Rattle.sdf_kit.proofs.offset.raise.Goals as goal

pub returns-then-value-ge0 : goal.returns-then-value-ge0
unfolding saturated
returns-then-value-ge0 c =
    let value = c.ranges.value.sfits in
    let sample = c.ranges.sample.sfits in
    let sum : ℤ = c.args.sample +ℤ c.args.value in
    let goes = clamp_is sum in
    omega (arith, ints, clamps, goes, c.min.ensures.value, c.if-value-ge0.true, value, sample)

pub returns-else-value-ge0 : goal.returns-else-value-ge0
unfolding saturated
returns-else-value-ge0 c =
    let value = c.ranges.value.sfits in
    let sample = c.ranges.sample.sfits in
    let sum : ℤ = c.args.sample +ℤ c.args.value in
    let goes = clamp_is sum in
    omega (arith, ints, clamps, goes, c.max.ensures.value, c.if-value-ge0.false, value, sample)
