-- The last firing at one end of a channel for which one at the other end waits.
use Rattle.std.proofs.Common.{◌≡◌, ℕ, ◌+◌, ◌-◌, ◌*◌, ◌≤◌, ◌<◌, ◌⊎◌, inl, inr, List, get_or, ap, subst, arith}
use Rattle.std.proofs.lemmas.Bool.{cases_lt, cases_eq}
use Rattle.sdf_graph.specs.Rates.{sum_to}
use Rattle.sdf_graph.proofs.Theorems.{sums_rise}
use Rattle.sdf_times.specs.Checks.{IsLeastWith, IsLastAwaited, repeating}

-- it is the one before the first that is not awaited
pub last_one : (a b : ℕ → ℕ) (lead whole k j i : ℕ) → lead < whole →
    IsLeastWith b lead (whole + sum_to a (k + 1)) i → IsLastAwaited a b lead whole k j → j ≡ i - 1
last_one a b lead whole k j i some least last = go (cases_lt j i) (cases_lt (j + 1) i)
  where
    go : (j < i) ⊎ (i ≤ j) → (j + 1 < i) ⊎ (i ≤ j + 1) → j ≡ i - 1
    go (inr high) x = absurd (omega (arith, sums_rise b i j high, least.reaches, last.0))
    go (inl low) (inl less) =
        absurd (omega (arith, sums_rise b (j + 1) (i - 1) (omega arith), least.below (omega arith), last.1))
    go (inl low) (inr up) = omega arith

pub some_awaited : (b : ℕ → ℕ) (lead whole wanted i : ℕ) → lead < whole → whole ≤ wanted →
    IsLeastWith b lead wanted i → 0 < i
some_awaited b lead whole wanted i some more least = go (cases_eq i 0)
  where
    go : (i ≡ 0) ⊎ (i ≡ 0 → ⊥) → 0 < i
    go (inl z) = absurd (omega (arith, least.reaches, ap (sum_to b) z))
    go (inr ne) = omega arith

-- one firing more
pub in_time_more : (a b : ℕ → ℕ) (lead whole back : ℕ) (xs ys : List ℕ) (pause t number i : ℕ) → lead < whole →
    IsLeastWith b lead (whole + sum_to a (number + 1)) i →
    repeating t ys (i - 1) + pause ≤ get_or xs number 0 + t * (1 + back) →
    ((k j : ℕ) → k < number → IsLastAwaited a b lead whole k j →
    repeating t ys j + pause ≤ get_or xs k 0 + t * (1 + back)) →
    (k j : ℕ) → k < number + 1 → IsLastAwaited a b lead whole k j →
    repeating t ys j + pause ≤ get_or xs k 0 + t * (1 + back)
in_time_more a b lead whole back xs ys pause t number i some least here before k j l last = go (cases_eq k number)
  where
    go : (k ≡ number) ⊎ (k ≡ number → ⊥) → repeating t ys j + pause ≤ get_or xs k 0 + t * (1 + back)
    go (inr ne) = before k j (omega arith) last
    go (inl is) =
        let same = last_one a b lead whole number j i some least
        (subst (λ k. IsLastAwaited a b lead whole k j) is last) in
        let its : repeating t ys j ≡ repeating t ys (i - 1) = ap (repeating t ys) same in
        omega (arith, here, ap (λ k. get_or xs k 0) is)
