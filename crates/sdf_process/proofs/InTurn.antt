-- Lists, one behind the other, of which each has whole frames.
use Rattle.std.proofs.Common.{◌≡◌, ℕ, suc, ◌+◌, ◌*◌, ◌/◌, ◌≤◌, ◌<◌, ℤ, List, [], ◌∷◌, ◌++◌, length, get_or}
use Rattle.std.proofs.Common.{take, drop, sym, ap, ◌∙◌, arith, ⊎_elim, append-nil}
use Rattle.std.proofs.Math.Nat.{mul-div_cancel, mul-le-mul_right}
use Rattle.std.proofs.Math.Seq.{take-suc, drop-cons}
use Rattle.std.proofs.lemmas.Bool.{cases_lt}
use Rattle.std.proofs.lemmas.Grind.{flat_map-append}
use Rattle.std.proofs.lemmas.List.{take-append-drop}
use Rattle.std.proofs.lemmas.List.Concat.{flat_map-cons}
use Rattle.std.proofs.lemmas.List.Folds.{length-flat_map-take}
use Rattle.sdf_process.specs.Output.{in_turn}

pub in_turn_more : (xs : List (List ℤ)) (y : List ℤ) → in_turn (xs ++ y ∷ []) ≡ in_turn xs ++ y
in_turn_more xs y = flat_map-append (λ (l : List ℤ). l) xs (y ∷ [])
    ∙ ap (λ (l : List ℤ). in_turn xs ++ l) (append-nil y)

module _ (xs : List (List ℤ)) (i : ℕ) (within : i < length xs) where
  -- one list more
  pub in_turn_grown : in_turn (take (i + 1) xs) ≡ in_turn (take i xs) ++ get_or xs i []
  in_turn_grown =
      ap (λ (k : ℕ). in_turn (take k xs)) (let e : i + 1 ≡ suc i = omega arith in e)
      ∙ (ap in_turn (take-suc xs i [] within) ∙ in_turn_more (take i xs) (get_or xs i []))

  -- the lists before one, that one, and those behind it
  pub in_turn_split : in_turn (take i xs) ++ (get_or xs i [] ++ in_turn (drop (i + 1) xs)) ≡ in_turn xs
  in_turn_split =
      let behind : in_turn (drop i xs) ≡ get_or xs i [] ++ in_turn (drop (i + 1) xs) =
      ap in_turn (drop-cons xs i [] within)
      ∙ (flat_map-cons (λ (l : List ℤ). l) (get_or xs i []) (drop (suc i) xs)
      ∙ ap (λ (k : ℕ). get_or xs i [] ++ in_turn (drop k xs)) (let e : suc i ≡ i + 1 = omega arith in e)) in
      ap (λ (l : List ℤ). in_turn (take i xs) ++ l) (sym behind)
      ∙ (sym (flat_map-append (λ (l : List ℤ). l) (take i xs) (drop i xs)) ∙ ap in_turn (take-append-drop i xs))

  -- its frames and those before are no more than there is room for
  pub at_most : (most before own channels : ℕ) → 1 ≤ channels → length (in_turn (take i xs)) ≡ before * channels →
      length (get_or xs i []) ≡ own * channels → length (in_turn xs) ≤ most * channels → before + own ≤ most
  at_most most before own channels some first here all = ⊎_elim
      (λ more.
      let past : (most + 1) * channels ≤ (before + own) * channels = mul-le-mul_right channels (omega arith) in
      let split : (before + own) * channels ≡ before * channels + own * channels = omega arith in
      let one : (most + 1) * channels ≡ most * channels + channels = omega arith in
      absurd (omega (arith, length-flat_map-take (λ (l : List ℤ). l) xs i [] within)))
      (λ few. few) (cases_lt most (before + own))

-- as many frames are as many samples
pub one_count : (a b channels : ℕ) → 1 ≤ channels → a * channels ≡ b * channels → a ≡ b
one_count a b channels some same = sym (mul-div_cancel a some)
    ∙ (ap (λ (k : ℕ). k / channels) same ∙ mul-div_cancel b some)
