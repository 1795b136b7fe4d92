use Rattle.std.proofs.Common.{subst}
use Rattle.sdf_prec.specs.Marked.{AreListed}
use Rattle.sdf_prec.proofs.Markings.{listed_less}
use Rattle.sdf_prec.proofs.hu.marked.Marks.take.Goals as goal

pub invariant_of-self-2 : goal.invariant_of-self-2
invariant_of-self-2 c =
    let marks = c.self.inside.is_marked.items in
    listed_less marks c.pop.new.self.items c.in_ok-actor.actor
    (subst (AreListed marks) c.in_ok-actor.ensures.items c.self.invariant)
