use Rattle.sdf_kit.proofs.Lanes.{products_are}
use Rattle.sdf_kit.proofs.dots.products.Goals as goal

pub returns : goal.returns
returns c = products_are c.args.x c.args.h c.requires.x c.requires.h
