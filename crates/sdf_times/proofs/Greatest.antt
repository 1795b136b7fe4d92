-- The greatest of the numbers with a property.
use Rattle.std.proofs.Common.{◌≡◌, ℕ, ◌+◌, ◌≤◌, ◌<◌, ◌⊎◌, List, get_or, max, inl, inr, ap, subst, arith, refl}
use Rattle.std.proofs.lemmas.Bool.{cases_lt}
use Rattle.sdf_times.specs.Times.{IsGreatest}

-- it is no greater than what none of them passes
pub greatest_least : (P : ℕ → Type 0) (t v : ℕ) → IsGreatest P t → ((u : ℕ) → P u → u ≤ v) → t ≤ v
greatest_least P t v g h = go g.reached
  where
    go : (t ≡ 0) ⊎ P t → t ≤ v
    go (inl z) = omega arith
    go (inr p) = h t p

pub greatest_same : (P Q : ℕ → Type 0) (t : ℕ) → ((u : ℕ) → P u → Q u) → ((u : ℕ) → Q u → P u) → IsGreatest P t →
    IsGreatest Q t
greatest_same P Q t to from g = record { above = λ u q. g.above u (from u q); reached = go g.reached }
  where
    go : (t ≡ 0) ⊎ P t → (t ≡ 0) ⊎ Q t
    go (inl z) = inl z
    go (inr p) = inr (to t p)

pub greatest_none : (P : ℕ → Type 0) (t : ℕ) → t ≡ 0 → ((u : ℕ) → P u → ⊥) → IsGreatest P t
greatest_none P t z none = record { above = λ u p. absurd (none u p); reached = inl z }

-- with one number more, where the others are no greater than it
pub greatest_more : (P Q : ℕ → Type 0) (t x : ℕ) → IsGreatest P t → ((u : ℕ) → P u → Q u) → ((x ≡ 0) ⊎ Q x) →
    ((u : ℕ) → Q u → P u ⊎ (u ≤ x)) → IsGreatest Q (max t x)
greatest_more P Q t x g to new from = record { above = λ u q. above u (from u q); reached = pick (cases_lt t x) }
  where
    above : (u : ℕ) → P u ⊎ (u ≤ x) → u ≤ max t x
    above u (inl p) = let low : u ≤ t = g.above u p in omega arith
    above u (inr h) = omega arith

    old : (t ≡ 0) ⊎ P t → (t ≡ 0) ⊎ Q t
    old (inl z) = inl z
    old (inr p) = inr (to t p)

    pick : (t < x) ⊎ (x ≤ t) → (max t x ≡ 0) ⊎ Q (max t x)
    pick (inl low) = let is : x ≡ max t x = omega arith in subst (λ m. (m ≡ 0) ⊎ Q m) is new
    pick (inr high) = let is : t ≡ max t x = omega arith in subst (λ m. (m ≡ 0) ⊎ Q m) is (old g.reached)

-- of a number and those with a property
pub greatest_or : (B : ℕ → Type 0) (s x : ℕ) → IsGreatest B x → IsGreatest (λ u. (u ≡ s) ⊎ B u) (max s x)
greatest_or B s x g =
    greatest_more (λ u. u ≡ s) (λ u. (u ≡ s) ⊎ B u) s x (record { above = λ u e. omega (arith, e); reached = inr refl })
    (λ u e. inl e) (new g.reached) (λ u q. back u q)
  where
    new : (x ≡ 0) ⊎ B x → (x ≡ 0) ⊎ ((x ≡ s) ⊎ B x)
    new (inl z) = inl z
    new (inr b) = inr (inr b)

    back : (u : ℕ) → (u ≡ s) ⊎ B u → (u ≡ s) ⊎ (u ≤ x)
    back u (inl e) = inl e
    back u (inr b) = inr (g.above u b)

-- the greatest of a list, one place on
pub greatest_place : (xs : List ℕ) (i t x : ℕ) → get_or xs i 0 ≡ x →
    IsGreatest (λ u. (j : ℕ) × (j < i) × (get_or xs j 0 ≡ u)) t →
    IsGreatest (λ u. (j : ℕ) × (j < i + 1) × (get_or xs j 0 ≡ u)) (max t x)
greatest_place xs i t x is g =
    greatest_more (λ u. (j : ℕ) × (j < i) × (get_or xs j 0 ≡ u))
    (λ u. (j : ℕ) × (j < i + 1) × (get_or xs j 0 ≡ u)) t x g
    (λ u w. (w.0, omega (arith, w.1), w.2)) (inr (i, omega arith, is)) (λ u w. back u w.0 w.1 w.2 (cases_lt w.0 i))
  where
    back : (u j : ℕ) → j < i + 1 → get_or xs j 0 ≡ u → (j < i) ⊎ (i ≤ j) →
        ((j : ℕ) × (j < i) × (get_or xs j 0 ≡ u)) ⊎ (u ≤ x)
    back u j l e (inl low) = inl (j, low, e)
    back u j l e (inr high) =
        let same : j ≡ i = omega arith in
        inr (omega (arith, e, is, ap (λ j. get_or xs j 0) same))
