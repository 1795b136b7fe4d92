use Rattle.std.proofs.Common.{arith}
use Rattle.sdf_kit.proofs.Branching.{sixteens_fit}
use Rattle.sdf_kit.proofs.branches.stretches_of.Goals as goal

pub bounds-stretches-k : goal.bounds-stretches-k
bounds-stretches-k c =
    let room = sixteens_fit c.args.up c.args.width c.requires.whole c.requires.places in
    omega (arith, room, c.loop-k-test.true)
