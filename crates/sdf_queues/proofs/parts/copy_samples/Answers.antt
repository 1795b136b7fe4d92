use Rattle.std.proofs.Common.{subst}
use Rattle.sdf_queues.specs.Parts.{AreCopied}
use Rattle.sdf_queues.proofs.parts.copy_samples.Goals as goal

pub returns-then-into-eq2 : goal.returns-then-into-eq2
returns-then-into-eq2 g c =
    let new = c.copy_each-then-into-eq2.new.to in
    subst (λ s. AreCopied s c.args.into 1 c.args.many c.args.from.now c.args.to.now new)
    c.with_step-then-into-eq2.ensures
    (subst (λ s. AreCopied c.with_step-then-into-eq2.result s 1 c.args.many c.args.from.now c.args.to.now new)
    c.with_step-then-into-eq2-2.ensures c.copy_each-then-into-eq2.ensures)
