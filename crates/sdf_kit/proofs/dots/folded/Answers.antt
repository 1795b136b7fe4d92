use Rattle.sdf_kit.proofs.Lanes.{folded_is}
use Rattle.sdf_kit.proofs.dots.folded.Goals as goal

pub returns : goal.returns
returns c = folded_is c.args.a c.requires
