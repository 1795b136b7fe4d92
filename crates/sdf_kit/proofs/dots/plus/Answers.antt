use Rattle.sdf_kit.proofs.Lanes.{plus_is}
use Rattle.sdf_kit.proofs.dots.plus.Goals as goal

pub returns : goal.returns
returns c = plus_is c.args.a c.args.b c.requires.a.fits c.requires.b.fits
