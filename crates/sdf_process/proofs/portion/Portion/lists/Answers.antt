use Rattle.std.proofs.Common.{arith}
use Rattle.sdf_process.proofs.Sizes.{frames_fit}
use Rattle.sdf_process.proofs.portion.Portion.lists.Goals as goal

pub channel_lists-requires-clause-len : goal.channel_lists-requires-clause-len
channel_lists-requires-clause-len c =
    let p = c.args.self in
    omega (arith, frames_fit 0 p.periods p.io.taken (omega arith) p.fits p.limits.few_taken)
