-- How many stretches sums go by.
use Rattle.std.proofs.Common.{◌≡◌, ℕ, suc, ◌+◌, ◌-◌, ◌*◌, ◌<◌, ◌≤◌, List, length, drop, get_or, Bool, true, ◌⊎◌, inl}
use Rattle.std.proofs.Common.{inr}
use Rattle.std.proofs.Common.{sym, ◌∙◌, ap, true≢false, arith}
use Rattle.std.specs.Prelude.{◌&&◌, ◌||◌, nat_le, nat_lt}
use Rattle.std.proofs.lemmas.Bool.{cases_lt}
use Rattle.std.proofs.lemmas.List.{at_drop_more}
use Rattle.std.proofs.lemmas.List.Folds.{list_all_at}
use Rattle.sdf_kit.specs.Stretches.{is_wide, stretch_count}
use Rattle.sdf_kit.specs.declared.branches.TheConstants.{LEAST_PEAK_TO_SPLIT, STRETCH_COST}

-- a stretch begins at the next sixteen
pub walk_begins : (lens : List ℕ) (i : ℕ) → i < length lens →
    stretch_count 0 (drop i lens) ≡ 1 + stretch_count (get_or lens i 0 - 1) (drop (i + 1) lens)
walk_begins lens i l = at_drop_more (stretch_count 0) lens i 0 l

-- a stretch goes on over the next sixteen
pub walk_goes_on : (lens : List ℕ) (n i : ℕ) → i < length lens →
    stretch_count (n + 1) (drop i lens) ≡ stretch_count n (drop (i + 1) lens)
walk_goes_on lens n i l = ap (λ m. stretch_count m (drop i lens)) one ∙ at_drop_more (stretch_count (suc n)) lens i 0 l
  where
    one : n + 1 ≡ suc n
    one = omega arith

-- if sums go by stretches, one begins at each sixteen
pub wide_begins : (lens : List ℕ) (up peak : ℕ) (wide : Bool) → wide ≡ is_wide lens up peak → wide ≡ true → (k : ℕ) →
    k < length lens → 1 ≤ get_or lens k 0
wide_begins lens up peak wide is so k l = go (cases_lt 0 (get_or lens k 0))
  where
    cheap : Bool
    cheap = nat_lt peak LEAST_PEAK_TO_SPLIT
        || nat_le (STRETCH_COST * stretch_count 0 lens) (length lens + STRETCH_COST * up)

    go : (0 < get_or lens k 0) ⊎ (get_or lens k 0 ≤ 0) → 1 ≤ get_or lens k 0
    go (inl less) = omega arith
    go (inr none) =
        let zero : get_or lens k 0 ≡ 0 = omega arith in
        absurd (true≢false (sym so ∙ is ∙ ap (λ all. all && cheap)
        (list_all_at (λ n. nat_lt 0 n) lens k 0 l (ap (nat_lt 0) zero))))
