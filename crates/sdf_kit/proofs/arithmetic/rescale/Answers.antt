use Rattle.std.proofs.Common.{◌∙◌, ◌/◌, ◌^◌, ◌≤◌, w32, FitsSigned, arith}
use Rattle.std.proofs.lemmas.Int.{to_z-of_z}
use Rattle.sdf_kit.proofs.Settling.{power_small, half_is, shifted_is}
use Rattle.sdf_kit.proofs.arithmetic.rescale.Goals as goal

pub returns : goal.returns
returns c =
    let low : 2 ^ c.args.shift ≤ 32768 = power_small c.args.shift c.requires.shift in
    let half : 2 ^ c.args.shift / 2 ≤ 32768 = omega arith in
    let is = rw (
      half_is c.args.shift c.requires.shift,
      shifted_is c.args.sum c.args.shift (2 ^ c.args.shift / 2) c.requires.small half,
    ) at c.saturate.ensures in
    let fits : FitsSigned w32 c.saturate.result = record { sfits = c.saturate.type_inv } in
    to_z-of_z w32 c.saturate.result fits ∙ is
