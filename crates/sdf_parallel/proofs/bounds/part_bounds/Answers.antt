use Rattle.std.proofs.Common.{◌+◌, [], ◌∷◌, ◌++◌, sym, subst}
use Rattle.sdf_parallel.proofs.Bounding.{AreFirst, one_more}
use Rattle.sdf_parallel.proofs.bounds.part_bounds.Goals as goal

pub loop-at-preserved : goal.loop-at-preserved
loop-at-preserved g c =
    let w = c.args.split in
    let at = c.loop-at.at in
    subst (AreFirst w (at + c.part_length-at-in-loop-at.result)) (sym c.in_ok-push-3.ensures.items)
    (subst (λ k. AreFirst w (at + k) (c.loop-at.bounds.items ++ (at + k) ∷ []))
    (sym c.part_length-at-in-loop-at.ensures)
    (one_more w at c.loop-at.bounds.items c.loop-at.invariant c.loop-at-test.true))
