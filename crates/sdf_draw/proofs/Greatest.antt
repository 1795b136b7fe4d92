-- The greatest of the numbers with a property.
use Rattle.std.proofs.Common.{◌≡◌, ℕ, ◌+◌, ◌≤◌, ◌<◌, ◌⊎◌, max, inl, inr, subst, arith, refl}
use Rattle.std.proofs.lemmas.Bool.{cases_lt}
use Rattle.sdf_times.specs.Times.{IsGreatest}

-- with one number more, where the others are no greater than it
pub greatest_more : (P Q : ℕ → Type 0) (t x : ℕ) → IsGreatest P t → ((u : ℕ) → P u → Q u) → Q x →
    ((u : ℕ) → Q u → P u ⊎ (u ≤ x)) → IsGreatest Q (max t x)
greatest_more P Q t x g to new from = record { above = λ u q. above u (from u q); reached = pick (cases_lt t x) }
  where
    above : (u : ℕ) → P u ⊎ (u ≤ x) → u ≤ max t x
    above u (inl p) = let low : u ≤ t = g.above u p in omega arith
    above u (inr h) = omega arith

    old : (t ≡ 0) ⊎ P t → (t ≡ 0) ⊎ Q t
    old (inl z) = inl z
    old (inr p) = inr (to t p)

    pick : (t < x) ⊎ (x ≤ t) → (max t x ≡ 0) ⊎ Q (max t x)
    pick (inl low) = let is : x ≡ max t x = omega arith in inr (subst Q is new)
    pick (inr high) = let is : t ≡ max t x = omega arith in subst (λ m. (m ≡ 0) ⊎ Q m) is (old g.reached)

-- the greatest of the values of the first places, one place on
pub greatest_place : (f : ℕ → ℕ) (i t : ℕ) → IsGreatest (λ u. (j : ℕ) × (j < i) × (f j ≡ u)) t →
    IsGreatest (λ u. (j : ℕ) × (j < i + 1) × (f j ≡ u)) (max t (f i))
greatest_place f i t g =
    greatest_more (λ u. (j : ℕ) × (j < i) × (f j ≡ u)) (λ u. (j : ℕ) × (j < i + 1) × (f j ≡ u)) t (f i) g
    (λ u w. (w.0, omega (arith, w.1), w.2)) (i, omega arith, refl) (λ u w. back u w.0 w.1 w.2 (cases_lt w.0 i))
  where
    back : (u j : ℕ) → j < i + 1 → f j ≡ u → (j < i) ⊎ (i ≤ j) → ((j : ℕ) × (j < i) × (f j ≡ u)) ⊎ (u ≤ f i)
    back u j l e (inl low) = inl (j, low, e)
    back u j l e (inr high) =
        let same : j ≡ i = omega arith in
        inr (subst (λ k. u ≤ f k) same (omega (arith, e)))

-- of numbers with another property that come to the same
pub greatest_same : (P Q : ℕ → Type 0) (t : ℕ) → ((u : ℕ) → 0 < u → P u → Q u) → ((u : ℕ) → 0 < u → Q u → P u) →
    IsGreatest P t → IsGreatest Q t
greatest_same P Q t to from g = record {
  above = λ u q. above u q (cases_lt 0 u);
  reached = go (cases_lt 0 t) g.reached;
}
  where
    above : (u : ℕ) → Q u → (0 < u) ⊎ (u ≤ 0) → u ≤ t
    above u q (inl some) = g.above u (from u some q)
    above u q (inr none) = omega arith

    go : (0 < t) ⊎ (t ≤ 0) → (t ≡ 0) ⊎ P t → (t ≡ 0) ⊎ Q t
    go (inr none) w = inl (omega arith)
    go (inl some) (inl z) = inl z
    go (inl some) (inr p) = inr (to t some p)

-- it is no greater than what none of them passes
pub greatest_least : (P : ℕ → Type 0) (t v : ℕ) → IsGreatest P t → ((u : ℕ) → P u → u ≤ v) → t ≤ v
greatest_least P t v g h = go g.reached
  where
    go : (t ≡ 0) ⊎ P t → t ≤ v
    go (inl z) = omega arith
    go (inr p) = h t p
