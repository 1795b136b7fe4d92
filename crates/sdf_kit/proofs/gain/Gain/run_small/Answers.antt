use Rattle.std.proofs.Common.{arith}
use Rattle.sdf_kit.specs.Gain.{scaled}
use Rattle.sdf_kit.proofs.Runs.{mapped_by}
use Rattle.sdf_kit.proofs.gain.Gain.run_small.Goals as goal

pub returns : goal.returns
returns c =
    mapped_by (scaled c.args.self.now) c.loop-i.put c.args.taken.now c.loop-i.invariant.0
    (λ k l. c.loop-i.invariant.1 k (omega (arith, c.loop-i-test.false, c.loop-i.invariant.0)))
