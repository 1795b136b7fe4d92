use Rattle.std.proofs.Common.{arith, below_more, inl, inr}
use Rattle.std.proofs.lemmas.Bool.{false≢true}
use Rattle.sdf_actor.proofs.checks.lists.first_repeated.Goals as goal

pub loop-a-preserved : goal.loop-a-preserved
loop-a-preserved g c =
    below_more _ _ c.loop-a.invariant
    (λ r. elim r [ inl x ↦ false≢true (c.if-repeats.ensures.1 x) | inr y ↦ false≢true (c.if-repeats-2.ensures.1 y) ])

pub returns : goal.returns
returns g c a l = c.loop-a.invariant a (omega arith)
