-- Taps and the two lists that they are split into.
use Rattle.std.proofs.Common.{◌≡◌, ℕ, ◌+◌, ◌*◌, ◌^◌, ◌<◌, ◌≤◌, ◌⊎◌, inl, inr, ℤ, pos, ◌+ℤ◌, ◌-ℤ◌, ◌*ℤ◌, List, [], ◌∷◌}
use Rattle.std.proofs.Common.{◌++◌, ◌/◌, length, sym, ap, ◌∙◌, subst, arith, div-add-mod', FitsSigned}
use Rattle.std.specs.Int.{w16}
use Rattle.std.proofs.lemmas.Int.{ints}
use Rattle.std.proofs.lemmas.Bool.{cases_eq}
use Rattle.std.proofs.lemmas.List.{get_or_push, get_or_append_left, length_push}
use Rattle.std.proofs.Math.Nat.{pow-le-pow_right}
use Rattle.sdf_filters.specs.Phases.{tap, Have16Bits}
use Rattle.sdf_filters.specs.Differences.{AreDifferences}
use Rattle.sdf_filters.specs.Wide.{late_tap, AreParts}

-- one value more of a list that a rule gives; z is the value as the code has it
pub value_pushed : (rule : ℕ → ℤ) (xs ys : List ℤ) (n : ℕ) (y z : ℤ) → length xs ≡ n → z ≡ y → y ≡ rule n →
    ys ≡ xs ++ z ∷ [] → ((k : ℕ) → k < n → tap xs k ≡ rule k) →
    (length ys ≡ n + 1) × ((k : ℕ) → k < n + 1 → tap ys k ≡ rule k)
value_pushed rule xs ys n y z long same is added before =
    let items : ys ≡ xs ++ y ∷ [] = added ∙ ap (λ m. xs ++ m ∷ []) same in (
      ap length items ∙ (length_push xs y ∙ ap (λ m. m + 1) long),
      subst (λ (v : List ℤ). (k : ℕ) → k < n + 1 → tap v k ≡ rule k) (sym items) (λ k below. go k below (cases_eq k n)),
    )
  where
    go : (k : ℕ) → k < n + 1 → (k ≡ n) ⊎ (k ≡ n → ⊥) → tap (xs ++ y ∷ []) k ≡ rule k
    go k below (inl e) = get_or_push xs y (pos 0) k (long ∙ sym e) ∙ (is ∙ ap rule (sym e))
    go k below (inr ne) = get_or_append_left xs (y ∷ []) (pos 0) k (omega arith) ∙ before k (omega arith)

pub unit_few : (bits : ℕ) → bits ≤ 8 → 2 ^ bits ≤ 256
unit_few bits few = pow-le-pow_right (omega arith) few

pub unit_fits : (z : ℤ) (bits : ℕ) → z ≡ pos (2 ^ bits) → bits ≤ 8 → FitsSigned w16 z
unit_fits z bits is few =
    let small : 2 ^ bits ≤ 256 = unit_few bits few in
    subst (FitsSigned w16) (sym is) (record { sfits = omega (arith, small) })

-- what is left of taps without the first list is the second one
pub are_parts : (up bits wait : ℕ) (taps high scaled low : List ℤ) → length scaled ≡ length taps →
    ((n : ℕ) → n < length taps → tap scaled n ≡ pos (2 ^ bits) *ℤ late_tap (wait * up) high n) →
    AreDifferences taps scaled low → Have16Bits high → 0 < length high → wait * up + length high ≤ length taps →
    AreParts up bits wait taps high low
are_parts up bits wait taps high scaled low same each are small some within = record {
  each = λ n below. sum (tap taps n) (tap scaled n) (pos (2 ^ bits) *ℤ late_tap (wait * up) high n) (tap low n)
      (each n below) (are.each n below);
  within = within;
  high_some = some;
  low_all = are.all;
  high_small = small;
  low_small = are.small;
}
  where
    sum : (t s h l : ℤ) → s ≡ h → l ≡ t -ℤ s → t ≡ h +ℤ l
    sum t s h l is left = omega (arith, ints, is, left)

pub whole_part : (n d : ℕ) → n / d * d ≤ n
whole_part n d = omega (arith, div-add-mod' n d)
