use Rattle.std.proofs.Common.{ℕ, ◌+◌, ◌<◌, length, get_or, set, sym, subst, ◌∙◌, inl, inr, arith}
use Rattle.std.proofs.lemmas.Bool.{cases_eq}
use Rattle.std.proofs.lemmas.List.{get_or-set_same, get_or-set_other, get_or_default}
use Rattle.std.specs.Fork.{ChangesAt}
use Rattle.sdf_rings.proofs.rings.busy.call_each.Goals as goal

pub loop-k-preserved : goal.loop-k-preserved
loop-k-preserved g c =
    let k = c.loop-k.k in
    let xs = c.args.s.now in
    let ys = c.loop-k.s in
    let y = c.call_at.new.it in
    let R : ℕ → g.row.T.Denot → g.row.T.Denot → Type 0 = λ j. ChangesAt g.F.Fn c.args.f.now (c.args.base + j) in
    let l : k < length ys = omega arith in (
      λ j d h. get_or-set_other ys k j y d (λ e. omega arith) ∙ c.loop-k.invariant.0 j d (omega arith),
      λ j d h. elim (cases_eq j k) as (λ _. R j (get_or xs j d) (get_or (set ys k y) j d)) [
        | inl e ↦ subst (λ i. R i (get_or xs i d) (get_or (set ys k y) i d)) (sym e)
            (subst (R k (get_or xs k d)) (sym (get_or-set_same ys k y d l))
            (subst (λ x. R k x y) (get_or_default ys k _ d l ∙ c.loop-k.invariant.0 k d (omega arith))
            c.call_at.ensures))
        | inr ne ↦ subst (R j (get_or xs j d)) (sym (get_or-set_other ys k j y d ne))
            (c.loop-k.invariant.1 j d (omega arith))
      ],
    )
