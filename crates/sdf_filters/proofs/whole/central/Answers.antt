use Rattle.std.proofs.Common.{arith}
use Rattle.std.proofs.Math.Nat.{mod-eq_of_lt}
use Rattle.sdf_filters.proofs.whole.central.Goals as goal

pub loop-place-init : goal.loop-place-init
loop-place-init c = (omega arith, mod-eq_of_lt c.requires.phase)
