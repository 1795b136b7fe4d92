use Rattle.std.proofs.Common.{arith}
use Rattle.std.proofs.lemmas.Bool.{false≢true}
use Rattle.sdf_rings.proofs.rings.busy.some_busy.Goals as goal

pub returns : goal.returns
returns g c = (
  λ h. absurd (false≢true h),
  λ found. absurd (c.loop-it.invariant found.0 found.1 (omega (arith, found.2)) found.3),
)
