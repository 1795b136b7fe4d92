use Rattle.std.proofs.Common.{arith}
use Rattle.std.proofs.Math.Nat.{mul-pos}
use Rattle.sdf_process.proofs.Sizes.{data_too_long}
use Rattle.sdf_process.proofs.io_rates.IoRates.is_too_long.Goals as goal

pub returns : goal.returns
returns c =
    data_too_long c.args.periods c.args.self.made c.args.self.outputs (mul-pos c.requires.some_made (omega arith))
