use Rattle.sdf_kit.proofs.Sliding.{fronts}
use Rattle.sdf_kit.proofs.delay.put_front.Goals as goal

pub returns : goal.returns
returns c =
    fronts c.args.kept.now c.args.taken.now c.args.put.now c.overwrite.new.buffer c.overwrite-2.new.buffer
    c.min-old.result c.min-old.ensures c.requires c.overwrite.ensures c.overwrite-2.ensures
