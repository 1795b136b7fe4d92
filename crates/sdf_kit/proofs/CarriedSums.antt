-- Sums by their upper and lower halves.
use Rattle.std.proofs.Common.{◌≡◌, ℕ, zero, suc, ◌+◌, ◌-◌, ◌*◌, ◌/◌, ◌^◌, ◌<◌, ◌≤◌, ℤ, pos, ◌+ℤ◌, ◌*ℤ◌, List}
use Rattle.std.proofs.Common.{[], ◌∷◌}
use Rattle.std.proofs.Common.{map, length, replicate, get_or, of_z, to_z, w32, FitsSigned, unsigned_abs, refl, sym, ap}
use Rattle.std.proofs.Common.{◌∙◌}
use Rattle.std.proofs.Common.{arith, lit<}
use Rattle.std.proofs.Math.Nat.{pow-le-pow_right}
use Rattle.std.specs.Int.{int_shr}
use Rattle.std.specs.Simd.Lanes.{zip2, Each1}
use Rattle.std.proofs.lemmas.Int.{ints, of_z-to_z, int_wrap_fits, int_wrap-add_left, fits_signed_from_abs}
use Rattle.std.proofs.lemmas.Int.{wrapping_mul_is, SFits-int_wrap}
use Rattle.std.proofs.lemmas.Simd.{get_or-zip2, length-zip2}
use borrow.Rule.Simd.Lanes.{act2}
use borrow.Table.Row.{s_int}
use mir.Syntax.{shl}
use Rattle.sdf_kit.specs.Samples.{rounded, saturated, rescaled}
use Rattle.sdf_kit.specs.Dots.{wrap, AreLanes}
use Rattle.sdf_kit.proofs.Lanes.{plus_lane, sum_is}
use Rattle.sdf_kit.proofs.Halves.{upper_lane as shift_lane}
use Rattle.sdf_kit.proofs.Settling.{power_small, shift_small, shift_is, saturated_same, saturated_fits}
use Rattle.sdf_kit.proofs.LaneTotals.{same_lanes, passed, lanes_plus}
use Rattle.sdf_kit.proofs.TileSums.{half_bits, rounded_one}
use Rattle.sdf_kit.proofs.Carrying.{sum_of, joined}

module _ (a b r : List ℤ) (la : AreLanes w32 8 a) (lb : AreLanes w32 8 b)
    (er : r ≡ zip2 (λ x y. wrap (x +ℤ y)) (map (to_z w32) (map (of_z w32) a)) (map (to_z w32) (map (of_z w32) b))) where
  plus_is : r ≡ zip2 (λ x y. wrap (x +ℤ y)) a b
  plus_is = rw (same_lanes w32 a la.fits, same_lanes w32 b lb.fits) at er

  r_lanes : AreLanes w32 8 r
  r_lanes = let l = lanes_plus 8 a b la.many lb.many in rw plus_is l

  pub plus_lanes : AreLanes w32 8 (map (to_z w32) (map (of_z w32) r))
  plus_lanes = passed w32 8 r r_lanes

  pub plus_at : (l : ℕ) → l < 8 → get_or (map (to_z w32) (map (of_z w32) r)) l (pos 0) ≡
      wrap (get_or a l (pos 0) +ℤ get_or b l (pos 0))
  plus_at l low =
      ap (λ xs. get_or xs l (pos 0)) (same_lanes w32 r r_lanes.fits ∙ plus_is)
      ∙ get_or-zip2 (λ x y. wrap (x +ℤ y)) a b l (pos 0) (pos 0) (pos 0) (omega (arith, la.many))
      (omega (arith, lb.many))

map_at : (f : ℤ → ℤ) (a : List ℤ) (l : ℕ) → l < length a → get_or (map f a) l (pos 0) ≡ f (get_or a l (pos 0))
map_at f [] l low = absurd (omega arith)
map_at f (x ∷ a) zero low = refl
map_at f (x ∷ a) (suc l) low = map_at f a l (omega arith)

-- a lane of halves
pub half_at : (f : ℤ → ℤ) (sums u : List ℤ) (l : ℕ) → AreLanes w32 8 sums →
    u ≡ map f (map (to_z w32) (map (of_z w32) sums)) →
    l < 8 → get_or u l (pos 0) ≡ f (get_or sums l (pos 0))
half_at f sums u l ls is low =
    ap (λ xs. get_or xs l (pos 0)) (is ∙ ap (map f) (same_lanes w32 sums ls.fits))
    ∙ map_at f sums l (omega (arith, ls.many))

-- a lane moved up
abbrev shl_lane : ℕ → ℕ → ℕ
shl_lane = act2 shl (s_int w32) (s_int w32) (s_int w32)

-- one lane joined and rounded
joined_one : (h lo : ℤ) (s : ℕ) → FitsSigned w32 h → unsigned_abs lo ≤ 67108864 → s ≤ 15 →
    unsigned_abs (sum_of h lo) ≤ 2147450880 * 2 ^ s →
    to_z w32 (plus_lane (shl_lane (of_z w32 h) (16 - s)) (shift_lane (plus_lane (of_z w32 lo) (half_bits s)) s)) ≡
    rescaled (sum_of h lo) s
joined_one h lo s hf low few small =
    let power : 2 ^ s ≤ 32768 = power_small s few in
    let up_power : 2 ^ (16 - s) ≤ 65536 = powers (16 - s) (omega arith) in
    let both = joined s few h lo small in
    let near : unsigned_abs (lo +ℤ pos (2 ^ s / 2)) ≤ 67108864 + 32768 = omega (arith, ints) in
    let less = shift_small (lo +ℤ pos (2 ^ s / 2)) s in
    let part : ℤ = int_shr (lo +ℤ pos (2 ^ s / 2)) s in
    let part_fits : FitsSigned w32 part = fits_signed_from_abs w32 part (omega arith) in
    let lower : shift_lane (plus_lane (of_z w32 lo) (half_bits s)) s ≡ of_z w32 part =
    rounded_one lo s (omega arith) few in
    let upper : to_z w32 (shl_lane (of_z w32 h) (16 - s)) ≡ wrap (h *ℤ pos (2 ^ (16 - s))) =
    wrapping_mul_is w32 h (pos (2 ^ (16 - s))) hf (fits_signed_from_abs w32 (pos (2 ^ (16 - s))) (omega arith)) in
    let bits : shl_lane (of_z w32 h) (16 - s) ≡ of_z w32 (wrap (h *ℤ pos (2 ^ (16 - s)))) =
    sym (of_z-to_z w32 (shl_lane (of_z w32 h) (16 - s)) (omega arith)) ∙ ap (of_z w32) upper in
    let whole : int_shr (sum_of h lo +ℤ pos (2 ^ s / 2)) s ≡ rescaled (sum_of h lo) s =
    sym (saturated_same (int_shr (sum_of h lo +ℤ pos (2 ^ s / 2)) s) both.1)
    ∙ ap saturated (shift_is (sum_of h lo +ℤ pos (2 ^ s / 2)) s) in
    let fits : FitsSigned w32 (int_shr (sum_of h lo +ℤ pos (2 ^ s / 2)) s) =
    fits_signed_from_abs w32 (int_shr (sum_of h lo +ℤ pos (2 ^ s / 2)) s) (let b = both.1 in omega arith) in
    ap (λ b. to_z w32 (plus_lane b (shift_lane (plus_lane (of_z w32 lo) (half_bits s)) s))) bits
    ∙ (ap (λ b. to_z w32 (plus_lane (of_z w32 (wrap (h *ℤ pos (2 ^ (16 - s))))) b)) lower
    ∙ (sum_is (wrap (h *ℤ pos (2 ^ (16 - s)))) part (SFits-int_wrap w32 (h *ℤ pos (2 ^ (16 - s)))) part_fits
    ∙ (int_wrap-add_left w32 (h *ℤ pos (2 ^ (16 - s))) part
    ∙ (ap wrap both.0 ∙ (int_wrap_fits w32 (int_shr (sum_of h lo +ℤ pos (2 ^ s / 2)) s) fits ∙ whole)))))
  where
    powers : (k : ℕ) → k ≤ 16 → 2 ^ k ≤ 65536
    powers k h = pow-le-pow_right (lit< tt) h

pub joined_are : (n : ℕ) (a b : List ℤ) (s : ℕ) → length a ≡ n → length b ≡ n → Each1 (FitsSigned w32) a → s ≤ 15 →
    ((l : ℕ) → l < n → unsigned_abs (get_or b l (pos 0)) ≤ 67108864) →
    ((l : ℕ) → l < n → unsigned_abs (sum_of (get_or a l (pos 0)) (get_or b l (pos 0))) ≤ 2147450880 * 2 ^ s) →
    map (to_z w32) (zip2 plus_lane (zip2 shl_lane (map (of_z w32) a) (replicate n (16 - s)))
    (zip2 shift_lane (zip2 plus_lane (map (of_z w32) b) (replicate n (half_bits s))) (replicate n s))) ≡
    zip2 (λ h lo. rescaled (sum_of h lo) s) a b
joined_are n [] b s e d f few low small = refl
joined_are zero (x ∷ a) b s e d f few low small = absurd (omega (arith, e))
joined_are (suc n) (x ∷ a) [] s e d f few low small = absurd (omega (arith, d))
joined_are (suc n) (x ∷ a) (y ∷ b) s e d f few low small =
    let first = joined_one x y s f.0 (low 0 (omega arith)) few (small 0 (omega arith)) in
    let rest = joined_are n a b s (omega (arith, e)) (omega (arith, d)) f.1 few (λ l h. low (suc l) (omega arith))
    (λ l h. small (suc l) (omega arith)) in
    rw (first, rest) refl

pub joined_lanes : (n : ℕ) (a b : List ℤ) (s : ℕ) → length a ≡ n → length b ≡ n →
    AreLanes w32 n (zip2 (λ h lo. rescaled (sum_of h lo) s) a b)
joined_lanes n a b s e d = record {
  many = length-zip2 (λ h lo. rescaled (sum_of h lo) s) a b (e ∙ sym d) ∙ e;
  fits = each a b;
}
  where
    each : (a b : List ℤ) → Each1 (FitsSigned w32) (zip2 (λ h lo. rescaled (sum_of h lo) s) a b)
    each [] b = tt
    each (x ∷ a) [] = tt
    each (x ∷ a) (y ∷ b) = (saturated_fits (rounded (sum_of x y) s), each a b)
