use Rattle.sdf_kit.proofs.Lanes.{pairs_are}
use Rattle.sdf_kit.proofs.dots.pairs.Goals as goal

pub returns : goal.returns
returns c = pairs_are c.args.a c.args.b c.requires.a c.requires.b
