use Rattle.std.proofs.Common.{subst, sym, w32}
use Rattle.sdf_kit.specs.Dots.{AreLanes}
use Rattle.sdf_kit.proofs.Halves.{lower_is, lower_lanes}
use Rattle.sdf_kit.proofs.dots.lower.Goals as goal

pub returns-clause-value : goal.returns-clause-value
returns-clause-value c = lower_is 8 c.args.a c.requires.many c.requires.fits

pub returns-clause-lanes : goal.returns-clause-lanes
returns-clause-lanes c =
    subst (λ r. AreLanes w32 8 r) (sym (lower_is 8 c.args.a c.requires.many c.requires.fits))
    (lower_lanes c.args.a c.requires)
