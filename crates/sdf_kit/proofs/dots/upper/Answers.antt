use Rattle.std.proofs.Common.{subst, sym, w32}
use Rattle.sdf_kit.specs.Dots.{AreLanes}
use Rattle.sdf_kit.proofs.Halves.{upper_is, upper_lanes}
use Rattle.sdf_kit.proofs.dots.upper.Goals as goal

pub returns-clause-value : goal.returns-clause-value
returns-clause-value c = upper_is 8 c.args.a c.requires.many c.requires.fits

pub returns-clause-lanes : goal.returns-clause-lanes
returns-clause-lanes c =
    subst (λ r. AreLanes w32 8 r) (sym (upper_is 8 c.args.a c.requires.many c.requires.fits))
    (upper_lanes c.args.a c.requires)
