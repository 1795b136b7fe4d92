use Rattle.std.proofs.Common.{◌≡◌, ℕ, ◌+◌, ◌≤◌, ◌<◌, ◌⊎◌, List, get_or, min, sym, subst, inl, inr, arith}
use Rattle.std.proofs.Common.{Some, None, Bool, true, false}
use Rattle.std.proofs.lemmas.Bool.{cases_lt, cases_eq, cases_Bool, false≢true}
use Rattle.sdf_prec.specs.Floor.{IsNextEnd}
use Rattle.sdf_prec.proofs.hu.floor.next_end.Goals.{then-end-now, else-end-now}
use Rattle.sdf_prec.proofs.hu.floor.next_end.Goals as goal

-- one end more, after some others
module _ (ends : List ℕ) (now i next : ℕ) where
  least : ((a : ℕ) → a < i → now < get_or ends a 0 → next ≤ get_or ends a 0) → (a : ℕ) → a < i + 1 →
      now < get_or ends a 0 → min next (get_or ends i 0) ≤ get_or ends a 0
  least before a l h = go (cases_eq a i)
    where
      go : (a ≡ i) ⊎ (a ≡ i → ⊥) → min next (get_or ends i 0) ≤ get_or ends a 0
      go (inl e) = subst (λ b. min next (get_or ends i 0) ≤ get_or ends b 0) (sym e) (omega arith)
      go (inr ne) = omega (arith, before a (omega arith) h)

  sooner_some : now < get_or ends i 0 → IsNextEnd ends now i (Some next) →
      IsNextEnd ends now (i + 1) (Some (min next (get_or ends i 0)))
  sooner_some l (after, (a, k, is), before) = (omega arith, go (cases_lt (get_or ends i 0) next), least before)
    where
      go : (get_or ends i 0 < next) ⊎ (next ≤ get_or ends i 0) →
          (b : ℕ) × (b < i + 1) × (get_or ends b 0 ≡ min next (get_or ends i 0))
      go (inl less) = (i, omega arith, omega arith)
      go (inr more) = (a, omega arith, omega (arith, is))

  sooner_none : now < get_or ends i 0 → get_or ends i 0 ≤ next → IsNextEnd ends now i None →
      IsNextEnd ends now (i + 1) (Some (min next (get_or ends i 0)))
  sooner_none l most none =
      (omega arith, (i, omega arith, omega arith), least (λ a k h. absurd (omega (arith, none a k))))

  sooner : (some : Bool) → now < get_or ends i 0 → (some ≡ true → IsNextEnd ends now i (Some next)) →
      (some ≡ false → IsNextEnd ends now i None) → (some ≡ false → get_or ends i 0 ≤ next) →
      (some ≡ true) ⊎ (some ≡ false) → IsNextEnd ends now (i + 1) (Some (min next (get_or ends i 0)))
  sooner some l is none most (inl s) = sooner_some l (is s)
  sooner some l is none most (inr s) = sooner_none l (most s) (none s)

  later_some : get_or ends i 0 ≤ now → IsNextEnd ends now i (Some next) → IsNextEnd ends now (i + 1) (Some next)
  later_some l (after, (a, k, is), before) = (after, (a, omega arith, is), λ b m h. go b m h (cases_eq b i))
    where
      go : (b : ℕ) → b < i + 1 → now < get_or ends b 0 → (b ≡ i) ⊎ (b ≡ i → ⊥) → next ≤ get_or ends b 0
      go b m h (inl e) = absurd (omega (arith, subst (λ b. now < get_or ends b 0) e h))
      go b m h (inr ne) = before b (omega arith) h

  later_none : get_or ends i 0 ≤ now → IsNextEnd ends now i None → IsNextEnd ends now (i + 1) None
  later_none l none b m = go (cases_eq b i)
    where
      go : (b ≡ i) ⊎ (b ≡ i → ⊥) → get_or ends b 0 ≤ now
      go (inl e) = subst (λ b. get_or ends b 0 ≤ now) (sym e) l
      go (inr ne) = none b (omega arith)

pub loop-end-preserved : goal.loop-end-preserved
loop-end-preserved c =
    let ends = c.args.until.now in
    let now : ℕ = c.args.now in
    let i : ℕ = c.loop-end.end-index in
    let v = c.loop-end.invariant in
    elim c.if-end-now.branch [
      | then-end-now w ↦ rw (w.some-is, w.next-is) (record {
        some = λ _. subst (λ x. IsNextEnd ends now (i + 1) (Some x)) (sym w.min-next.ensures) (sooner ends now i
            c.loop-end.next c.loop-end.some w.if-end-now.true (λ s. v.some s) (λ s. v.none s)
            (λ s. omega (arith, v.most s, c.type_inv.until i)) (cases_Bool c.loop-end.some));
        none = λ no. absurd (false≢true (sym no));
        most = λ no. absurd (false≢true (sym no));
      })
      | else-end-now w ↦ rw (w.some-is, w.next-is) (record {
        some = λ s. later_some ends now i c.loop-end.next w.if-end-now.false (v.some s);
        none = λ s. later_none ends now i c.loop-end.next w.if-end-now.false (v.none s);
        most = v.most;
      })
    ]
