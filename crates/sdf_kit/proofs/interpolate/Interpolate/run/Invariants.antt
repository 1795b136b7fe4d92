use Rattle.std.proofs.Common.{◌≡◌, length}
use Rattle.sdf_kit.proofs.Upsampled.{IsSpread}
use Rattle.sdf_kit.proofs.interpolate.Interpolate.run.Given as goal

abbrev pub invariant-loop-i : goal.invariant-loop-i
invariant-loop-i l = (length l.put ≡ length l.fn.put) × IsSpread l.self l.taken l.put l.i
