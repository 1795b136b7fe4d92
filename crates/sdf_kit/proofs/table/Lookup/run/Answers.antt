use Rattle.std.proofs.Common.{arith}
use Rattle.sdf_kit.specs.Table.{looked_up}
use Rattle.sdf_kit.proofs.Runs.{mapped_by}
use Rattle.sdf_kit.proofs.table.Lookup.run.Goals as goal

pub returns : goal.returns
returns c =
    mapped_by (looked_up c.args.self.now) c.loop-i.put c.args.taken.now c.loop-i.invariant.0
    (λ k l. c.loop-i.invariant.1 k (omega (arith, c.loop-i-test.false, c.loop-i.invariant.0)))
