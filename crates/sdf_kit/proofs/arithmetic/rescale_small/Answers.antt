use Rattle.std.proofs.Common.{◌/◌, ◌^◌, ◌≤◌, arith}
use Rattle.sdf_kit.proofs.Settling.{power_small, half_small, shifted_small}
use Rattle.sdf_kit.proofs.arithmetic.rescale_small.Goals as goal

pub returns : goal.returns
returns c =
    let low : 2 ^ c.args.shift ≤ 32768 = power_small c.args.shift c.requires.shift in
    let half : 2 ^ c.args.shift / 2 ≤ 16384 = omega arith in
    rw (half_small c.args.shift c.requires.shift) (shifted_small c.args.sum c.args.shift (2 ^ c.args.shift / 2)
    c.requires.small half)
