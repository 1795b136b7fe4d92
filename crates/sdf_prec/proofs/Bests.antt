-- The open column of least load.
use Rattle.std.proofs.Common.{◌≡◌, ℕ, ◌+◌, ◌≤◌, ◌<◌, ◌⊎◌, subst, sym, inl, inr, arith, refl, Option, Some, None}
use Rattle.std.specs.Prelude.{MatchOption}
use Rattle.std.proofs.lemmas.Option.{none-some, same_Some}
use Rattle.std.proofs.lemmas.Bool.{cases_lt, cases_eq}
use Rattle.sdf_prec.specs.Trying.{IsPlace, IsLeast}
use Rattle.sdf_prec.specs.Placing.{IsBest, IsNowhere}

pub best_new : (i : ℕ) (free : ℕ → Type 0) (weights : ℕ → ℕ) (best : Option ℕ) → IsBest i free weights best → free i →
    ((b : ℕ) → best ≡ Some b → weights i < weights b) → IsBest (i + 1) free weights (Some i)
best_new i free weights None s here less = (omega arith, here, λ m l f. go m l f (cases_eq m i))
  where
    go : (m : ℕ) → m < i + 1 → free m → (m ≡ i) ⊎ (m ≡ i → ⊥) →
        (weights i < weights m) ⊎ ((weights i ≡ weights m) × (i ≤ m))
    go m l f (inl e) = inr ((λ k. weights (sym e k)), omega arith)
    go m l f (inr ne) = absurd (s m (omega arith) f)
best_new i free weights (Some b) s here less = (omega arith, here, λ m l f. go m l f (cases_eq m i))
  where
    under : (m : ℕ) → (weights b < weights m) ⊎ ((weights b ≡ weights m) × (b ≤ m)) → weights i < weights m
    under m (inl x) = omega (arith, less b refl)
    under m (inr x) = omega (arith, less b refl, x.0)

    go : (m : ℕ) → m < i + 1 → free m → (m ≡ i) ⊎ (m ≡ i → ⊥) →
        (weights i < weights m) ⊎ ((weights i ≡ weights m) × (i ≤ m))
    go m l f (inl e) = inr ((λ k. weights (sym e k)), omega arith)
    go m l f (inr ne) = inl (under m (s.2 m (omega arith) f))

pub best_kept : (i : ℕ) (free : ℕ → Type 0) (weights : ℕ → ℕ) (best : Option ℕ) → IsBest i free weights best →
    (free i → ((b : ℕ) → best ≡ Some b → weights i < weights b) → ⊥) → IsBest (i + 1) free weights best
best_kept i free weights None s not = λ j l f. go j l f (cases_eq j i)
  where
    go : (j : ℕ) → j < i + 1 → free j → (j ≡ i) ⊎ (j ≡ i → ⊥) → ⊥
    go j l f (inl e) = not (subst free e f) (λ b e. absurd (none-some b e))
    go j l f (inr ne) = s j (omega arith) f
best_kept i free weights (Some b) s not = (omega (arith, s.0), s.1, λ m l f. go m l f (cases_eq m i))
  where
    go : (m : ℕ) → m < i + 1 → free m → (m ≡ i) ⊎ (m ≡ i → ⊥) →
        (weights b < weights m) ⊎ ((weights b ≡ weights m) × (b ≤ m))
    go m l f (inr ne) = s.2 m (omega arith) f
    go m l f (inl e) = subst (λ m. (weights b < weights m) ⊎ ((weights b ≡ weights m) × (b ≤ m))) (sym e)
        (at (subst free e f) (cases_lt (weights i) (weights b)) (cases_lt (weights b) (weights i)))
      where
        at : free i → (weights i < weights b) ⊎ (weights b ≤ weights i) →
            (weights b < weights i) ⊎ (weights i ≤ weights b) →
            (weights b < weights i) ⊎ ((weights b ≡ weights i) × (b ≤ i))
        at here (inl less) _ = absurd (not here (λ c e. subst (λ c. weights i < weights c) (same_Some b c e) less))
        at here (inr _) (inl less) = inl less
        at here (inr x) (inr y) = inr (omega arith, omega (arith, s.0))

pub best_place : (width : ℕ) (free : ℕ → Type 0) (weights : ℕ → ℕ) (best : Option ℕ) → IsBest width free weights best →
    MatchOption best (IsNowhere width free None) (IsPlace width free weights None)
best_place width free weights None s = s
best_place width free weights (Some b) s = record { known = s.0; is_free = s.1; chosen = inr (refl, s.2) }

-- with such a home a firing has no place
pub nowhere_none : (width : ℕ) (free : ℕ → Type 0) (weights : ℕ → ℕ) (home : Option ℕ) → IsNowhere width free home →
    (j : ℕ) → IsPlace width free weights home j → ⊥
nowhere_none width free weights None none j p = none j p.known p.is_free
nowhere_none width free weights (Some k) none j p = go p.chosen
  where
    go : (Some k ≡ Some j) ⊎ ((Some k ≡ None) × IsLeast width free weights j) → ⊥
    go (inl e) = none.1 (subst free (sym (same_Some k j e)) p.is_free)
    go (inr (e, _)) = none-some k (sym e)
