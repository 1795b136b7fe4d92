-- What a firing of a deal or a gather puts is what it takes.
use Rattle.std.proofs.Common.{◌≡◌, ℕ, zero, suc, ◌<◌, ◌≤◌, cond, ltb, eqb, ℤ, pos, List, [], ◌++◌, length, map, refl}
use Rattle.std.proofs.Common.{◌∙◌, ap, arith, ⊎_elim}
use Rattle.std.specs.List.{flat_map, range_with_len}
use Rattle.std.proofs.lemmas.Bool.{cases_lt, lt-ltb, le-ltb, eq-eqb, ne_eqb}
use Rattle.std.proofs.lemmas.List.{append-nil}
use Rattle.std.proofs.lemmas.List.FromFn.{fill_by_all}
use Rattle.sdf_kit.specs.Samples.{sample}
use Rattle.sdf_kit.proofs.Totals.{flat_suc}

module _ (xs : List ℤ) (j : ℕ) where
  abbrev dealt : ℕ → List ℤ
  dealt p = cond (eqb p j) xs []

  dealt_below : (n : ℕ) → flat_map dealt (range_with_len 0 n) ≡ cond (ltb j n) xs []
  dealt_below zero = rw (le-ltb j zero (omega arith)) refl
  dealt_below (suc n) =
      flat_suc dealt n ∙ (ap (λ ys. ys ++ dealt n) (dealt_below n)
      ∙ ⊎_elim low (λ h. ⊎_elim (here h) high (cases_lt j (suc n))) (cases_lt j n))
    where
      low : j < n → cond (ltb j n) xs [] ++ dealt n ≡ cond (ltb j (suc n)) xs []
      low h = rw (lt-ltb j n h, ne_eqb n j (λ e. absurd (omega arith)), lt-ltb j (suc n) (omega arith)) (append-nil xs)

      here : n ≤ j → j < suc n → cond (ltb j n) xs [] ++ dealt n ≡ cond (ltb j (suc n)) xs []
      here h l = rw (le-ltb j n h, eq-eqb n j (omega arith), lt-ltb j (suc n) l) refl

      high : suc n ≤ j → cond (ltb j n) xs [] ++ dealt n ≡ cond (ltb j (suc n)) xs []
      high h = rw (le-ltb j n (omega arith), ne_eqb n j (λ e. absurd (omega arith)), le-ltb j (suc n) h) refl

  -- all goes to port j
  pub dealt_is : (w : ℕ) → j < w → flat_map (λ p. cond (eqb p j) xs []) (range_with_len 0 w) ≡ xs
  dealt_is w l = dealt_below w ∙ rw (lt-ltb j w l) refl

pub gathered_is : (xs : List ℤ) (r : ℕ) → length xs ≡ r → xs ≡ map (sample xs) (range_with_len 0 r)
gathered_is xs r long = fill_by_all (sample xs) xs r (pos 0) long (λ k l. refl)
