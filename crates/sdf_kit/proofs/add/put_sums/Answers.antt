use Rattle.std.proofs.Common.{length, pos, arith}
use Rattle.std.proofs.lemmas.List.FromFn.{fill_by_all}
use Rattle.sdf_kit.specs.Add.{sum_at}
use Rattle.sdf_kit.proofs.add.put_sums.Goals as goal

pub returns : goal.returns
returns c =
    fill_by_all (sum_at c.args.ways c.args.taken.now) c.loop-i.put (length c.args.put.now) (pos 0)
    c.loop-i.invariant.0
    (λ k l. c.loop-i.invariant.1 k (omega (arith, l, c.loop-i-test.false, c.loop-i.invariant.0)))
