use Rattle.std.proofs.Common.{◌≡◌, ℕ, ◌+◌, ◌≤◌, ◌<◌, ◌++◌, ◌∷◌, ◌⊎◌, List, [], length, get_or}
use Rattle.std.proofs.Common.{inl, inr, ap, subst, arith}
use Rattle.std.proofs.lemmas.Bool.{cases_lt}
use Rattle.std.proofs.lemmas.List.{get_or_append_left, get_or_push, length_push}
use Rattle.std.proofs.lemmas.List.Sums.{sum_by_more, sum_by-take-le}
use Rattle.sdf_times.proofs.search.events.Events.new.Goals as goal

within_more : (n offsets : List ℕ) (i total : ℕ) → length offsets ≡ i →
    ((a : ℕ) → a < i → get_or offsets a 0 + get_or n a 0 ≤ total) → (a : ℕ) → a < i + 1 →
    get_or (offsets ++ total ∷ []) a 0 + get_or n a 0 ≤ total + get_or n i 0
within_more n offsets i total all before a l = go (cases_lt a i)
  where
    go : (a < i) ⊎ (i ≤ a) → get_or (offsets ++ total ∷ []) a 0 + get_or n a 0 ≤ total + get_or n i 0
    go (inl below) = omega (arith, before a below, get_or_append_left offsets (total ∷ []) 0 a (omega (arith, all)))
    go (inr last) =
        let same : i ≡ a = omega arith in
        subst (λ a. get_or (offsets ++ total ∷ []) a 0 + get_or n a 0 ≤ total + get_or n i 0) same
        (omega (arith, get_or_push offsets total 0 i all))

pub overflow_add-total : goal.overflow_add-total
overflow_add-total c =
    let n = c.args.firings.items in
    let i : ℕ = c.loop-count.count-index in
    let here : i < length n = omega (arith, c.loop-count-test.true, ap length c.deref-count-items.ensures.value) in
    let read = ap (λ (xs : List ℕ). get_or xs i 0) c.deref-count-items.ensures.value in
    omega (
      arith,
      read,
      sum_by_more (λ x. x) n i 0 here,
      sum_by-take-le (λ x. x) n (i + 1),
      c.loop-count.invariant.total,
      c.requires.few,
    )

pub loop-count-preserved : goal.loop-count-preserved
loop-count-preserved c =
    let n = c.args.firings.items in
    let i : ℕ = c.loop-count.count-index in
    let here : i < length n = omega (arith, c.loop-count-test.true, ap length c.deref-count-items.ensures.value) in
    let read = ap (λ (xs : List ℕ). get_or xs i 0) c.deref-count-items.ensures.value in
    let items = c.in_ok-push.ensures.items in
    let k = c.loop-count.invariant in
    record {
      total = omega (arith, read, sum_by_more (λ x. x) n i 0 here, k.total);
      every = omega (arith, ap length items, length_push c.loop-count.offsets.items c.loop-count.total, k.every);
      within = λ a l. omega (
        arith,
        read,
        ap (λ (xs : List ℕ). get_or xs a 0) items,
        within_more n c.loop-count.offsets.items i c.loop-count.total k.every k.within a l,
      );
    }
