-- Sums of products in the lanes of vectors.
use Rattle.std.proofs.Common.{◌≡◌, ℕ, zero, suc, ◌+◌, ◌*◌, ◌/◌, ◌%◌, ◌<◌, ◌≤◌, ℤ, pos, ◌+ℤ◌, ◌*ℤ◌, List, [], ◌∷◌, map}
use Rattle.std.proofs.Common.{length}
use Rattle.std.proofs.Common.{replicate, ◌^◌, unsigned_abs}
use Rattle.std.proofs.Common.{take, drop, get_or, of_z, to_z, w32, FitsSigned, refl, sym, ap, subst, ◌∙◌, arith}
use Rattle.std.specs.Prelude.{int_div}
use Rattle.std.specs.Int.{w16, int_shr}
use Rattle.std.specs.Simd.Lanes.{zip2, Each1}
use Rattle.std.proofs.lemmas.Int.{int_wrap-add_left, int_wrap-add_right, int_wrap_fits, ints, to_z-of_z, to_z_pos}
use Rattle.std.proofs.lemmas.Int.{fits_signed_from_abs}
use Rattle.std.proofs.lemmas.List.{get_or-take, get_or-drop, length-map}
use Rattle.std.proofs.lemmas.Nat.{one_shl}
use Rattle.std.proofs.lemmas.Simd.{get_or-zip2, length-zip2}
use Rattle.sdf_kit.specs.Samples.{rounded, saturated, rescaled}
use Rattle.sdf_kit.specs.Dots.{wrap, neighbours, AreLanes}
use Rattle.sdf_kit.proofs.Lanes.{plus_lane, sum_is}
use Rattle.sdf_kit.proofs.Halves.{upper_lane as shift_lane}
use Rattle.sdf_kit.proofs.Settling.{power_small, shift_small, shift_is, saturated_same, saturated_fits}
use Rattle.sdf_kit.specs.Tiles.{times, pair_sum, lane_sum, AreTileSums}
use Rattle.sdf_kit.proofs.LaneTotals.{same_lanes, passed, nothing, lanes_plus, lanes_neighbours}

pub length-times : (n : ℕ) (a b : ℤ) → length (times n a b) ≡ n + n
length-times zero a b = refl
length-times (suc n) a b = let ih = length-times n a b in omega arith

-- lane l of the products of pairs with the same two numbers
pub lane_of_pairs : (n : ℕ) (h : List ℤ) (a b : ℤ) (l : ℕ) → length h ≡ n + n → l < n →
    get_or (neighbours (zip2 (λ x y. x *ℤ y) h (times n a b))) l (pos 0) ≡
    wrap ((get_or h (2 * l) (pos 0) *ℤ a) +ℤ (get_or h (2 * l + 1) (pos 0) *ℤ b))
lane_of_pairs zero h a b l e low = absurd (omega arith)
lane_of_pairs (suc n) [] a b l e low = absurd (omega (arith, e))
lane_of_pairs (suc n) (x ∷ []) a b l e low = absurd (omega (arith, e))
lane_of_pairs (suc n) (x ∷ y ∷ h) a b zero e low = refl
lane_of_pairs (suc n) (x ∷ y ∷ h) a b (suc l) e low =
    let first : 2 * suc l ≡ suc (suc (2 * l)) = omega arith in
    let second : 2 * suc l + 1 ≡ suc (suc (2 * l + 1)) = omega arith in
    lane_of_pairs n h a b l (omega (arith, e)) (omega arith)
    ∙ sym (ap (λ i. wrap ((get_or (x ∷ y ∷ h) i (pos 0) *ℤ a) +ℤ
    (get_or (x ∷ y ∷ h) (2 * suc l + 1) (pos 0) *ℤ b))) first
    ∙ ap (λ i. wrap ((get_or h (2 * l) (pos 0) *ℤ a) +ℤ (get_or (x ∷ y ∷ h) i (pos 0) *ℤ b))) second)

-- what `add` gives
module _ (sums h x p r : List ℤ) (ls : AreLanes w32 8 sums) (lh : AreLanes w16 16 h) (lx : AreLanes w16 16 x)
    (ep : p ≡ neighbours (zip2 (λ a b. a *ℤ b) (map (to_z w16) (map (of_z w16) h)) (map (to_z w16) (map (of_z w16) x))))
    (er : r ≡ zip2 (λ a b. wrap (a +ℤ b)) (map (to_z w32) (map (of_z w32) sums)) (map (to_z w32) (map (of_z w32) p)))
  where
    p_is : p ≡ neighbours (zip2 (λ a b. a *ℤ b) h x)
    p_is = rw (same_lanes w16 h lh.fits, same_lanes w16 x lx.fits) at ep

    pub p_lanes : AreLanes w32 8 p
    p_lanes =
        let long : length (zip2 (λ a b. a *ℤ b) h x) ≡ 8 + 8 =
        length-zip2 (λ a b. a *ℤ b) h x (lh.many ∙ sym lx.many) ∙ lh.many in
        rw p_is (lanes_neighbours 8 (zip2 (λ a b. a *ℤ b) h x) long)

    r_is : r ≡ zip2 (λ a b. wrap (a +ℤ b)) sums (neighbours (zip2 (λ a b. a *ℤ b) h x))
    r_is = (rw (same_lanes w32 sums ls.fits, same_lanes w32 p p_lanes.fits) at er)
        ∙ ap (zip2 (λ a b. wrap (a +ℤ b)) sums) p_is

    pub added_lanes : AreLanes w32 8 r
    added_lanes =
        let l = lanes_plus 8 sums (neighbours (zip2 (λ a b. a *ℤ b) h x)) ls.many (rw p_is at p_lanes).many in
        rw r_is l

    pub added_is : map (to_z w32) (map (of_z w32) r) ≡
        zip2 (λ a b. wrap (a +ℤ b)) sums (neighbours (zip2 (λ a b. a *ℤ b) h x))
    added_is = same_lanes w32 r added_lanes.fits ∙ r_is

-- one pair more
pub tile_next : (taps x a h xs r : List ℤ) (k : ℕ) → AreTileSums taps x k a → AreLanes w16 16 h →
    h ≡ take 16 (drop (16 * k) taps) → AreLanes w16 16 xs →
    xs ≡ times 8 (get_or x (2 * k) (pos 0)) (get_or x (2 * k + 1) (pos 0)) →
    AreLanes w32 8 r →
    r ≡ zip2 (λ a b. wrap (a +ℤ b)) a (neighbours (zip2 (λ a b. a *ℤ b) (map (to_z w16) (map (of_z w16) h))
    (map (to_z w16) (map (of_z w16) xs)))) →
    AreTileSums taps x (suc k) (map (to_z w32) (map (of_z w32) r))
tile_next taps x a h xs r k is lh eh lx ex lr er = record {
  lanes = passed w32 8 r lr;
  each = λ l low.
      let taps_are : map (to_z w16) (map (of_z w16) h) ≡ take 16 (drop (16 * k) taps) = same_lanes w16 h lh.fits ∙ eh in
      let xs_are : map (to_z w16) (map (of_z w16) xs) ≡ times 8 u v = same_lanes w16 xs lx.fits ∙ ex in
      let long : length (take 16 (drop (16 * k) taps)) ≡ 8 + 8 = sym (ap length eh) ∙ lh.many in
      let sums_are : r ≡ zip2 (λ a b. wrap (a +ℤ b)) a
      (neighbours (zip2 (λ a b. a *ℤ b) (take 16 (drop (16 * k) taps)) (times 8 u v))) =
      er ∙ (ap (λ t. zip2 (λ a b. wrap (a +ℤ b)) a (neighbours
      (zip2 (λ a b. a *ℤ b) t (map (to_z w16) (map (of_z w16) xs))))) taps_are
      ∙ ap (λ t. zip2 (λ a b. wrap (a +ℤ b)) a (neighbours
      (zip2 (λ a b. a *ℤ b) (take 16 (drop (16 * k) taps)) t))) xs_are) in
      let made_long : length (neighbours (zip2 (λ a b. a *ℤ b) (take 16 (drop (16 * k) taps)) (times 8 u v))) ≡ 8 =
      (lanes_neighbours 8 (zip2 (λ a b. a *ℤ b) (take 16 (drop (16 * k) taps)) (times 8 u v))
      (length-zip2 (λ a b. a *ℤ b) (take 16 (drop (16 * k) taps)) (times 8 u v) (long ∙ sym (length-times 8 u v))
      ∙ long)).many in
      let first : get_or (take 16 (drop (16 * k) taps)) (2 * l) (pos 0) ≡ get_or taps (16 * k + 2 * l) (pos 0) =
      get_or-take 16 (drop (16 * k) taps) (2 * l) (pos 0) (omega arith) ∙ get_or-drop (16 * k) taps (2 * l) (pos 0) in
      let second : get_or (take 16 (drop (16 * k) taps)) (2 * l + 1) (pos 0) ≡
      get_or taps (16 * k + (2 * l + 1)) (pos 0) =
      get_or-take 16 (drop (16 * k) taps) (2 * l + 1) (pos 0) (omega arith)
      ∙ get_or-drop (16 * k) taps (2 * l + 1) (pos 0) in
      let here : get_or (neighbours (zip2 (λ a b. a *ℤ b) (take 16 (drop (16 * k) taps)) (times 8 u v))) l (pos 0) ≡
      wrap (pair_sum taps x l k) =
      lane_of_pairs 8 (take 16 (drop (16 * k) taps)) u v l long low
      ∙ ap (λ t. wrap ((t *ℤ u) +ℤ (get_or (take 16 (drop (16 * k) taps)) (2 * l + 1) (pos 0) *ℤ v))) first
      ∙ ap (λ t. wrap ((get_or taps (16 * k + 2 * l) (pos 0) *ℤ u) +ℤ (t *ℤ v))) second in
      let both : get_or r l (pos 0) ≡ wrap (wrap (lane_sum taps x l k) +ℤ wrap (pair_sum taps x l k)) =
      ap (λ t. get_or t l (pos 0)) sums_are
      ∙ (get_or-zip2 (λ a b. wrap (a +ℤ b)) a (neighbours
      (zip2 (λ a b. a *ℤ b) (take 16 (drop (16 * k) taps)) (times 8 u v))) l
      (pos 0) (pos 0) (pos 0) (omega (arith, is.lanes.many)) (omega (arith, made_long))
      ∙ (ap (λ t. wrap (t +ℤ get_or (neighbours (zip2 (λ a b. a *ℤ b) (take 16 (drop (16 * k) taps)) (times 8 u v))) l
      (pos 0))) (is.each l low)
      ∙ ap (λ t. wrap (wrap (lane_sum taps x l k) +ℤ t)) here)) in
      ap (λ t. get_or t l (pos 0)) (same_lanes w32 r lr.fits)
      ∙ (both ∙ wraps (lane_sum taps x l k) (pair_sum taps x l k));
}
  where
    u : ℤ
    u = get_or x (2 * k) (pos 0)

    v : ℤ
    v = get_or x (2 * k + 1) (pos 0)

    wraps : (a b : ℤ) → wrap (wrap a +ℤ wrap b) ≡ wrap (a +ℤ b)
    wraps a b = int_wrap-add_left w32 a (wrap b) ∙ int_wrap-add_right w32 a b

-- no pair
pub tile_nothing : (taps x : List ℤ) →
    AreTileSums taps x 0 (pos 0 ∷ pos 0 ∷ pos 0 ∷ pos 0 ∷ pos 0 ∷ pos 0 ∷ pos 0 ∷ pos 0 ∷ [])
tile_nothing taps x = record {
  lanes = (nothing [] []).lanes;
  each = λ l low. zeros l ∙ sym (int_wrap_fits w32 (pos 0) (record { sfits = omega arith }));
}
  where
    zeros : (l : ℕ) →
        get_or (pos 0 ∷ pos 0 ∷ pos 0 ∷ pos 0 ∷ pos 0 ∷ pos 0 ∷ pos 0 ∷ pos 0 ∷ []) l (pos 0) ≡ pos 0
    zeros zero = refl
    zeros (suc zero) = refl
    zeros (suc (suc zero)) = refl
    zeros (suc (suc (suc zero))) = refl
    zeros (suc (suc (suc (suc zero)))) = refl
    zeros (suc (suc (suc (suc (suc zero))))) = refl
    zeros (suc (suc (suc (suc (suc (suc zero)))))) = refl
    zeros (suc (suc (suc (suc (suc (suc (suc zero))))))) = refl
    zeros (suc (suc (suc (suc (suc (suc (suc (suc l)))))))) = refl

-- the same at a place of the samples
pub tile_on : (taps x a h xs r : List ℤ) (at : ℕ) → at % 2 ≡ 0 → AreTileSums taps x (at / 2) a → AreLanes w16 16 h →
    h ≡ take 16 (drop (8 * at) taps) → AreLanes w16 16 xs →
    xs ≡ times 8 (get_or x at (pos 0)) (get_or x (at + 1) (pos 0)) →
    AreLanes w32 8 r →
    r ≡ zip2 (λ a b. wrap (a +ℤ b)) a (neighbours (zip2 (λ a b. a *ℤ b) (map (to_z w16) (map (of_z w16) h))
    (map (to_z w16) (map (of_z w16) xs)))) →
    AreTileSums taps x ((at + 2) / 2) (map (to_z w32) (map (of_z w32) r))
tile_on taps x a h xs r at even is lh eh lx ex lr er =
    let k : ℕ = at / 2 in
    let samples : at ≡ 2 * k = omega arith in
    let places : 8 * at ≡ 16 * k = omega arith in
    let further : (at + 2) / 2 ≡ suc k = omega arith in
    subst (λ n. AreTileSums taps x n (map (to_z w32) (map (of_z w32) r))) (sym further)
    (tile_next taps x a h xs r k is lh (eh ∙ ap (λ n. take 16 (drop n taps)) places) lx
    (ex ∙ ap (λ n. times 8 (get_or x n (pos 0)) (get_or x (n + 1) (pos 0))) samples) lr er)

-- the half that rounds, as a lane has it
abbrev pub half_bits : ℕ → ℕ
half_bits s = of_z w32 (int_div (to_z w32 ((1 * 2 ^ s) % 4294967296)) (pos 2))

-- one lane moved down, after the half is added
pub rounded_one : (x : ℤ) (s : ℕ) → unsigned_abs x ≤ 2147467263 → s ≤ 15 →
    shift_lane (plus_lane (of_z w32 x) (half_bits s)) s ≡ of_z w32 (int_shr (x +ℤ pos (2 ^ s / 2)) s)
rounded_one x s small low =
    let power : 2 ^ s ≤ 32768 = power_small s low in
    let bits : half_bits s ≡ of_z w32 (pos (2 ^ s / 2)) =
    ap (λ n. of_z w32 (int_div (to_z w32 n) (pos 2))) (one_shl s 32 (omega arith))
    ∙ ap (λ z. of_z w32 (int_div z (pos 2))) (to_z_pos w32 (2 ^ s) (omega arith)) in
    let x_fits : FitsSigned w32 x = fits_signed_from_abs w32 x (omega arith) in
    let half_fits : FitsSigned w32 (pos (2 ^ s / 2)) = fits_signed_from_abs w32 (pos (2 ^ s / 2)) (omega arith) in
    let near : unsigned_abs (x +ℤ pos (2 ^ s / 2)) ≤ 2147483647 = omega (arith, ints) in
    let sum_fits : FitsSigned w32 (x +ℤ pos (2 ^ s / 2)) =
    fits_signed_from_abs w32 (x +ℤ pos (2 ^ s / 2)) (omega arith) in
    let sum : to_z w32 (plus_lane (of_z w32 x) (half_bits s)) ≡ x +ℤ pos (2 ^ s / 2) =
    ap (λ b. to_z w32 (plus_lane (of_z w32 x) b)) bits
    ∙ (sum_is x (pos (2 ^ s / 2)) x_fits half_fits ∙ int_wrap_fits w32 (x +ℤ pos (2 ^ s / 2)) sum_fits) in
    ap (λ z. of_z w32 (int_shr z s)) sum

-- one lane rounded
rescaled_one : (x : ℤ) (s : ℕ) → unsigned_abs x ≤ 2147467263 → s ≤ 15 →
    to_z w32 (shift_lane (plus_lane (of_z w32 x) (half_bits s)) s) ≡ rescaled x s
rescaled_one x s small low =
    let power : 2 ^ s ≤ 32768 = power_small s low in
    let near : unsigned_abs (x +ℤ pos (2 ^ s / 2)) ≤ 2147483647 = omega (arith, ints) in
    let less : unsigned_abs (int_shr (x +ℤ pos (2 ^ s / 2)) s) ≤ unsigned_abs (x +ℤ pos (2 ^ s / 2)) =
    shift_small (x +ℤ pos (2 ^ s / 2)) s in
    let shifted : FitsSigned w32 (int_shr (x +ℤ pos (2 ^ s / 2)) s) =
    fits_signed_from_abs w32 (int_shr (x +ℤ pos (2 ^ s / 2)) s) (omega arith) in
    ap (to_z w32) (rounded_one x s small low)
    ∙ (to_z-of_z w32 (int_shr (x +ℤ pos (2 ^ s / 2)) s) shifted
    ∙ (sym (saturated_same (int_shr (x +ℤ pos (2 ^ s / 2)) s) (omega arith))
    ∙ ap saturated (shift_is (x +ℤ pos (2 ^ s / 2)) s)))

pub rescaled_are : (n : ℕ) (a : List ℤ) (s : ℕ) → length a ≡ n → s ≤ 15 →
    ((l : ℕ) → l < n → unsigned_abs (get_or a l (pos 0)) ≤ 2147467263) →
    map (to_z w32) (zip2 shift_lane (zip2 plus_lane (map (of_z w32) a) (replicate n (half_bits s))) (replicate n s)) ≡
    map (λ z. rescaled z s) a
rescaled_are n [] s e low small = refl
rescaled_are zero (x ∷ a) s e low small = absurd (omega (arith, e))
rescaled_are (suc n) (x ∷ a) s e low small =
    let first = rescaled_one x s (small 0 (omega arith)) low in
    let rest = rescaled_are n a s (omega (arith, e)) low (λ l h. small (suc l) (omega arith)) in
    rw (first, rest) refl

pub rescaled_lanes : (n : ℕ) (a : List ℤ) (s : ℕ) → length a ≡ n → AreLanes w32 n (map (λ z. rescaled z s) a)
rescaled_lanes n a s e = record { many = length-map a (λ z. rescaled z s) ∙ e; fits = each a }
  where
    each : (a : List ℤ) → Each1 (FitsSigned w32) (map (λ z. rescaled z s) a)
    each [] = tt
    each (x ∷ a) = (saturated_fits (rounded x s), each a)

pub rescaled_at : (a : List ℤ) (s l : ℕ) → l < length a →
    get_or (map (λ z. rescaled z s) a) l (pos 0) ≡ rescaled (get_or a l (pos 0)) s
rescaled_at [] s l low = absurd (omega arith)
rescaled_at (x ∷ a) s zero low = refl
rescaled_at (x ∷ a) s (suc l) low = rescaled_at a s l (omega arith)
