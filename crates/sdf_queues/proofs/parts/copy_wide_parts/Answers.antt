use Rattle.std.proofs.Common.{◌≡◌, subst, arith}
use Rattle.sdf_queues.specs.Parts.{AreCopied}
use Rattle.sdf_queues.proofs.Gathers.{copied_more}
use Rattle.sdf_queues.proofs.parts.copy_wide_parts.Goals as goal

pub loop-i-preserved : goal.loop-i-preserved
loop-i-preserved g c =
    let is = c.copy_part.ensures in
    copied_more c.requires.apart is.before is.behind is.copied c.loop-i.invariant

pub returns : goal.returns
returns g c =
    let all : c.loop-i.i ≡ c.args.many = omega (arith, c.loop-i-test.false, c.loop-i.auto.i-end) in
    subst (λ many. AreCopied c.args.out c.args.into c.args.width many c.args.from.now c.args.to.now c.loop-i.to) all
    c.loop-i.invariant
