use Rattle.std.proofs.Common.{◌≡◌, ℕ, zero, suc, ◌+◌, ◌≤◌, ◌<◌, ◌++◌, ◌∷◌, List, [], length, sum, take, get_or}
use Rattle.std.proofs.Common.{replicate, refl, sym, ap, ◌∙◌, subst, inl, inr, ◌⊎◌, arith}
use Rattle.std.proofs.lemmas.Bool.{cases_lt}
use Rattle.std.proofs.lemmas.List.{get_or_append_left, get_or_push, length_push, length-replicate, take_all}
use Rattle.std.proofs.lemmas.List.Sums.{sum_by_more, sum_by-take-le}
use Rattle.sdf_prec.specs.Numbers.{index}
use Rattle.sdf_prec.proofs.numbers.Numbers.new.Goals as goal

-- one actor more
starts_more : (n offsets : List ℕ) (i total : ℕ) → length offsets ≡ i → total ≡ sum (take i n) →
    ((a : ℕ) → a < i → get_or offsets a 0 ≡ sum (take a n)) → (a : ℕ) → a < i + 1 →
    get_or (offsets ++ total ∷ []) a 0 ≡ sum (take a n)
starts_more n offsets i total all is before a l = go (cases_lt a i)
  where
    go : (a < i) ⊎ (i ≤ a) → get_or (offsets ++ total ∷ []) a 0 ≡ sum (take a n)
    go (inl below) = get_or_append_left offsets (total ∷ []) 0 a (omega (arith, all)) ∙ before a below
    go (inr last) =
        let same : i ≡ a = omega arith in
        subst (λ a. get_or (offsets ++ total ∷ []) a 0 ≡ sum (take a n)) same (get_or_push offsets total 0 i all ∙ is)

none_numbered : (n i : ℕ) → ◌≡◌ {A = ℕ} (get_or (replicate n 0) i 0) 0
none_numbered zero i = refl
none_numbered (suc n) zero = refl
none_numbered (suc n) (suc i) = none_numbered n i

pub loop-count-init : goal.loop-count-init
loop-count-init c = record {
  total = refl;
  every = ap length c.new-offsets.ensures.items;
  starts = λ a l. absurd (omega arith);
}

pub overflow_add-total : goal.overflow_add-total
overflow_add-total c =
    let n = c.args.firings.items in
    let i : ℕ = c.loop-count.count-index in
    let here : i < length n = omega (arith, c.loop-count-test.true, ap length c.deref-count-items.ensures.value) in
    let read = ap (λ (xs : List ℕ). get_or xs i 0) c.deref-count-items.ensures.value in
    omega (
      arith,
      read,
      sum_by_more (λ x. x) n i 0 here,
      sum_by-take-le (λ x. x) n (i + 1),
      c.loop-count.invariant.total,
      c.requires,
    )

pub loop-count-preserved : goal.loop-count-preserved
loop-count-preserved c =
    let n = c.args.firings.items in
    let i : ℕ = c.loop-count.count-index in
    let here : i < length n = omega (arith, c.loop-count-test.true, ap length c.deref-count-items.ensures.value) in
    let read = ap (λ (xs : List ℕ). get_or xs i 0) c.deref-count-items.ensures.value in
    let items = c.in_ok-push.ensures.items in
    let k = c.loop-count.invariant in
    record {
      total = omega (arith, read, sum_by_more (λ x. x) n i 0 here, k.total);
      every = omega (arith, ap length items, length_push c.loop-count.offsets.items c.loop-count.total, k.every);
      starts = subst (λ (xs : List ℕ). (a : ℕ) → a < i + 1 → get_or xs a 0 ≡ sum (take a n)) (sym items)
          (starts_more n c.loop-count.offsets.items i c.loop-count.total k.every k.total k.starts);
    }

pub invariant_of-result : goal.invariant_of-result
invariant_of-result c =
    let n = c.args.firings.items in
    let k = c.loop-count.invariant in
    let all : c.loop-count.count-index ≡ length n =
    omega (
      arith,
      ap length c.deref-count-items.ensures.value,
      c.loop-count-test.false,
      c.loop-count.auto.count-index-end,
    ) in
    let zeros = c.in_ok-numbers.ensures.items_if_clones_equal (λ y e. e) in
    record {
      every = k.every ∙ all;
      starts = λ a l. k.starts a (omega (arith, all, l));
      whole = ap length zeros ∙ (length-replicate c.loop-count.total 0
          ∙ (k.total ∙ ap sum (take_all c.loop-count.count-index n (omega (arith, all)))));
    }

pub returns : goal.returns
returns c = (
  refl,
  λ f. ap (λ (xs : List ℕ). get_or xs (index c.args.firings.items f) 0)
      (c.in_ok-numbers.ensures.items_if_clones_equal (λ y e. e))
      ∙ none_numbered c.loop-count.total (index c.args.firings.items f),
)
