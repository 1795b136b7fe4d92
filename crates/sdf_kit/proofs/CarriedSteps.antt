-- A stretch of pairs more, by the halves of its sums.
use Rattle.std.proofs.Common.{◌≡◌, ℕ, zero, suc, ◌+◌, ◌-◌, ◌*◌, ◌<◌, ◌≤◌, ℤ, pos, negsuc, ◌+ℤ◌, ◌-ℤ◌, ◌*ℤ◌, List}
use Rattle.std.proofs.Common.{[]}
use Rattle.std.proofs.Common.{◌∷◌, length, take, drop, get_or, map, of_z, to_z, w32, FitsSigned, unsigned_abs, refl}
use Rattle.std.proofs.Common.{sym, ap, subst}
use Rattle.std.proofs.Common.{◌∙◌, arith}
use Rattle.std.specs.Int.{int_shr, w16}
use Rattle.std.specs.Simd.Lanes.{Each1}
use Rattle.std.proofs.lemmas.Int.{ints, int_wrap_fits, fits_signed_from_abs}
use Rattle.std.proofs.lemmas.List.{get_or-take, get_or-drop, length-take-le, length-drop}
use Rattle.std.proofs.lemmas.Simd.{Each1-get_or}
use Rattle.std.proofs.Math.Nat.{le-max_left, le-max_right}
use Rattle.sdf_kit.specs.Dots.{wrap, AreLanes}
use Rattle.sdf_kit.specs.Stretches.{weight, weight_of, IsStretch}
use Rattle.sdf_kit.specs.Tiles.{pair_sum, lane_sum, AreTileSums, AreCarried}
use Rattle.sdf_kit.specs.declared.carries.Carried.{Carried}
use Rattle.sdf_kit.proofs.Settling.{abs_add}
use Rattle.sdf_kit.proofs.LaneSums.{product_small}
use Rattle.sdf_kit.proofs.LaneTotals.{same_lanes}

-- the pairs behind the first ones
pub lane_sum_more : (taps x : List ℤ) (l done n : ℕ) → lane_sum taps x l (done + n) ≡
    lane_sum taps x l done +ℤ lane_sum (drop (16 * done) taps) (drop (2 * done) x) l n
lane_sum_more taps x l done zero =
    let e : done + zero ≡ done = omega arith in
    let none : lane_sum taps x l done ≡ lane_sum taps x l done +ℤ pos 0 = omega (arith, ints) in
    ap (λ n. lane_sum taps x l n) e ∙ none
lane_sum_more taps x l done (suc n) =
    let e : done + suc n ≡ suc (done + n) = omega arith in
    let ih = lane_sum_more taps x l done n in
    let a : 16 * done + (16 * n + 2 * l) ≡ 16 * (done + n) + 2 * l = omega arith in
    let b : 16 * done + (16 * n + (2 * l + 1)) ≡ 16 * (done + n) + (2 * l + 1) = omega arith in
    let d : 2 * done + 2 * n ≡ 2 * (done + n) = omega arith in
    let f : 2 * done + (2 * n + 1) ≡ 2 * (done + n) + 1 = omega arith in
    let first = get_or-drop (16 * done) taps (16 * n + 2 * l) (pos 0) ∙ ap (λ k. get_or taps k (pos 0)) a in
    let second = get_or-drop (16 * done) taps (16 * n + (2 * l + 1)) (pos 0) ∙ ap (λ k. get_or taps k (pos 0)) b in
    let third = get_or-drop (2 * done) x (2 * n) (pos 0) ∙ ap (λ k. get_or x k (pos 0)) d in
    let fourth = get_or-drop (2 * done) x (2 * n + 1) (pos 0) ∙ ap (λ k. get_or x k (pos 0)) f in
    let same : pair_sum (drop (16 * done) taps) (drop (2 * done) x) l n ≡ pair_sum taps x l (done + n) =
    ap (λ z. (z *ℤ get_or (drop (2 * done) x) (2 * n) (pos 0))
    +ℤ (get_or (drop (16 * done) taps) (16 * n + (2 * l + 1)) (pos 0) *ℤ get_or (drop (2 * done) x) (2 * n + 1)
    (pos 0))) first
    ∙ (ap (λ z. (get_or taps (16 * (done + n) + 2 * l) (pos 0) *ℤ z)
    +ℤ (get_or (drop (16 * done) taps) (16 * n + (2 * l + 1)) (pos 0) *ℤ get_or (drop (2 * done) x) (2 * n + 1)
    (pos 0))) third
    ∙ (ap (λ z. (get_or taps (16 * (done + n) + 2 * l) (pos 0) *ℤ get_or x (2 * (done + n)) (pos 0))
    +ℤ (z *ℤ get_or (drop (2 * done) x) (2 * n + 1) (pos 0))) second
    ∙ ap (λ z. (get_or taps (16 * (done + n) + 2 * l) (pos 0) *ℤ get_or x (2 * (done + n)) (pos 0))
    +ℤ (get_or taps (16 * (done + n) + (2 * l + 1)) (pos 0) *ℤ z)) fourth)) in
    ap (λ m. lane_sum taps x l m) e ∙ omega (arith, ints, ih, same)

-- only the first taps and samples are read
pub lane_sum_pieces : (taps x : List ℤ) (p q l k : ℕ) → l < 8 → 16 * k ≤ p → 2 * k ≤ q →
    lane_sum (take p taps) (take q x) l k ≡ lane_sum taps x l k
lane_sum_pieces taps x p q l zero low few less = refl
lane_sum_pieces taps x p q l (suc k) low few less =
    let ih = lane_sum_pieces taps x p q l k low (omega arith) (omega arith) in
    let first = get_or-take p taps (16 * k + 2 * l) (pos 0) (omega arith) in
    let second = get_or-take p taps (16 * k + (2 * l + 1)) (pos 0) (omega arith) in
    let third = get_or-take q x (2 * k) (pos 0) (omega arith) in
    let fourth = get_or-take q x (2 * k + 1) (pos 0) (omega arith) in
    let same : pair_sum (take p taps) (take q x) l k ≡ pair_sum taps x l k =
    ap (λ z. (z *ℤ get_or (take q x) (2 * k) (pos 0))
    +ℤ (get_or (take p taps) (16 * k + (2 * l + 1)) (pos 0) *ℤ get_or (take q x) (2 * k + 1) (pos 0))) first
    ∙ (ap (λ z. (get_or taps (16 * k + 2 * l) (pos 0) *ℤ z)
    +ℤ (get_or (take p taps) (16 * k + (2 * l + 1)) (pos 0) *ℤ get_or (take q x) (2 * k + 1) (pos 0))) third
    ∙ (ap (λ z. (get_or taps (16 * k + 2 * l) (pos 0) *ℤ get_or x (2 * k) (pos 0))
    +ℤ (z *ℤ get_or (take q x) (2 * k + 1) (pos 0))) second
    ∙ ap (λ z. (get_or taps (16 * k + 2 * l) (pos 0) *ℤ get_or x (2 * k) (pos 0))
    +ℤ (get_or taps (16 * k + (2 * l + 1)) (pos 0) *ℤ z)) fourth)) in
    ap (λ z. z +ℤ pair_sum (take p taps) (take q x) l k) ih ∙ ap (λ z. lane_sum taps x l k +ℤ z) same

-- neighbours weigh no more than the heaviest two
weight_at : (n : ℕ) (h : List ℤ) (l : ℕ) → length h ≡ n + n → l < n →
    unsigned_abs (get_or h (2 * l) (pos 0)) + unsigned_abs (get_or h (2 * l + 1) (pos 0)) ≤ weight h
weight_at zero h l e low = absurd (omega arith)
weight_at (suc n) [] l e low = absurd (omega (arith, e))
weight_at (suc n) (x ∷ []) l e low = absurd (omega (arith, e))
weight_at (suc n) (x ∷ y ∷ h) zero e low = le-max_left (unsigned_abs x + unsigned_abs y) (weight h)
weight_at (suc n) (x ∷ y ∷ h) (suc l) e low =
    let first : 2 * suc l ≡ suc (suc (2 * l)) = omega arith in
    let second : 2 * suc l + 1 ≡ suc (suc (2 * l + 1)) = omega arith in
    let ih = weight_at n h l (omega (arith, e)) (omega arith) in
    let more = le-max_right (unsigned_abs x + unsigned_abs y) (weight h) in
    let a : unsigned_abs (get_or (x ∷ y ∷ h) (2 * suc l) (pos 0)) ≡ unsigned_abs (get_or h (2 * l) (pos 0)) =
    ap (λ i. unsigned_abs (get_or (x ∷ y ∷ h) i (pos 0))) first in
    let b : unsigned_abs (get_or (x ∷ y ∷ h) (2 * suc l + 1) (pos 0)) ≡ unsigned_abs (get_or h (2 * l + 1) (pos 0)) =
    ap (λ i. unsigned_abs (get_or (x ∷ y ∷ h) i (pos 0))) second in
    omega arith

-- a lane of pairs is no further from 0 than their weight allows
pub lane_small : (h x : List ℤ) (l n : ℕ) → ((k : ℕ) → k < 2 * n → FitsSigned w16 (get_or x k (pos 0))) → l < 8 →
    16 * n ≤ length h → unsigned_abs (lane_sum h x l n) ≤ weight_of n h * 32768
lane_small h x l zero fits low room = omega arith
lane_small h x l (suc n) fits low room =
    let ih = lane_small h x l n (λ k j. fits k (omega arith)) low (omega arith) in
    let chunk : List ℤ = take 16 (drop (16 * n) h) in
    let long : length chunk ≡ 8 + 8 =
    length-take-le 16 (drop (16 * n) h) (omega (arith, length-drop (16 * n) h)) in
    let heavy = weight_at 8 chunk l long low in
    let first : get_or chunk (2 * l) (pos 0) ≡ get_or h (16 * n + 2 * l) (pos 0) =
    get_or-take 16 (drop (16 * n) h) (2 * l) (pos 0) (omega arith) ∙ get_or-drop (16 * n) h (2 * l) (pos 0) in
    let second : get_or chunk (2 * l + 1) (pos 0) ≡ get_or h (16 * n + (2 * l + 1)) (pos 0) =
    get_or-take 16 (drop (16 * n) h) (2 * l + 1) (pos 0) (omega arith) ∙ get_or-drop (16 * n) h (2 * l + 1) (pos 0) in
    let light : unsigned_abs (get_or h (16 * n + 2 * l) (pos 0))
    + unsigned_abs (get_or h (16 * n + (2 * l + 1)) (pos 0)) ≤
    weight chunk =
    subst (λ z. unsigned_abs z + unsigned_abs (get_or h (16 * n + (2 * l + 1)) (pos 0)) ≤ weight chunk) first
    (subst (λ z. unsigned_abs (get_or chunk (2 * l) (pos 0)) + unsigned_abs z ≤ weight chunk) second heavy) in
    let a = product_small (get_or h (16 * n + 2 * l) (pos 0)) (get_or x (2 * n) (pos 0)) (fits (2 * n) (omega arith)) in
    let b = product_small (get_or h (16 * n + (2 * l + 1)) (pos 0)) (get_or x (2 * n + 1) (pos 0))
    (fits (2 * n + 1) (omega arith)) in
    let both = abs_add (get_or h (16 * n + 2 * l) (pos 0) *ℤ get_or x (2 * n) (pos 0))
    (get_or h (16 * n + (2 * l + 1)) (pos 0) *ℤ get_or x (2 * n + 1) (pos 0)) in
    let all = abs_add (lane_sum h x l n) (pair_sum h x l n) in
    omega arith

-- the halves of a lane
upper_small : (x : ℤ) → FitsSigned w32 x → unsigned_abs (int_shr x 16) ≤ 32768
upper_small (pos n) f = omega (arith, f.sfits)
upper_small (negsuc n) f = omega (arith, f.sfits)

lower_small : (x : ℤ) → FitsSigned w32 x → unsigned_abs (x -ℤ (pos 65536 *ℤ int_shr x 16)) ≤ 65535
lower_small (pos n) f = omega (arith, ints, f.sfits)
lower_small (negsuc n) f = omega (arith, ints, f.sfits)

-- one stretch more
module _ (taps x h xs sums : List ℤ) (done n count : ℕ) (was now : Carried) (is : AreCarried taps x done was)
    (are : AreTileSums h xs count sums) (pairs : count ≡ n)
    (h_is : h ≡ take (16 * (done + n) - 16 * done) (drop (16 * done) taps))
    (xs_is : xs ≡ take (2 * (done + n) - 2 * done) (drop (2 * done) x))
    (light : IsStretch n (drop (16 * done) taps)) (taps_room : 16 * (done + n) ≤ length taps)
    (x_room : 2 * (done + n) ≤ length x) (few : done + n ≤ 1024) (short : Each1 (FitsSigned w16) x)
    (high_lanes : AreLanes w32 8 now.high) (low_lanes : AreLanes w32 8 now.low)
    (high : (l : ℕ) → l < 8 → get_or now.high l (pos 0) ≡
    wrap (get_or was.high l (pos 0) +ℤ int_shr (get_or (map (to_z w32) (map (of_z w32) sums)) l (pos 0)) 16))
    (low : (l : ℕ) → l < 8 → get_or now.low l (pos 0) ≡
    wrap (get_or was.low l (pos 0) +ℤ (get_or (map (to_z w32) (map (of_z w32) sums)) l (pos 0)
    -ℤ (pos 65536 *ℤ int_shr (get_or (map (to_z w32) (map (of_z w32) sums)) l (pos 0)) 16)))) where
  abbrev behind : List ℤ
  behind = drop (16 * done) taps

  abbrev later : List ℤ
  later = drop (2 * done) x

  fits : (k : ℕ) → k < 2 * n → FitsSigned w16 (get_or later k (pos 0))
  fits k l = subst (FitsSigned w16) (sym (get_or-drop (2 * done) x k (pos 0)))
      (Each1-get_or (FitsSigned w16) x (2 * done + k) (pos 0) (omega arith) short)

  small : (l : ℕ) → l < 8 → unsigned_abs (lane_sum behind later l n) ≤ 65535 * 32768
  small l m =
      let s = lane_small behind later l n fits m (omega (arith, length-drop (16 * done) taps)) in
      let w : weight_of n behind ≤ 65535 = light in
      omega arith

  sum_is : (l : ℕ) → l < 8 → get_or (map (to_z w32) (map (of_z w32) sums)) l (pos 0) ≡ lane_sum behind later l n
  sum_is l m =
      let s = small l m in
      ap (λ r. get_or r l (pos 0)) (same_lanes w32 sums are.lanes.fits)
      ∙ (are.each l m ∙ (ap (λ k. wrap (lane_sum h xs l k)) pairs
      ∙ (ap (λ t. wrap (lane_sum t xs l n)) h_is
      ∙ (ap (λ t. wrap (lane_sum (take (16 * (done + n) - 16 * done) behind) t l n)) xs_is
      ∙ (ap wrap (lane_sum_pieces behind later (16 * (done + n) - 16 * done) (2 * (done + n) - 2 * done) l n m
      (omega arith) (omega arith))
      ∙ int_wrap_fits w32 (lane_sum behind later l n)
      (fits_signed_from_abs w32 (lane_sum behind later l n) (omega arith)))))))

  s_fits : (l : ℕ) → l < 8 → FitsSigned w32 (lane_sum behind later l n)
  s_fits l m = let s = small l m in fits_signed_from_abs w32 (lane_sum behind later l n) (omega arith)

  some : (l : ℕ) → l < 8 → unsigned_abs (get_or was.high l (pos 0) +ℤ int_shr (lane_sum behind later l n) 16) ≤
      done * 32768 + 32768
  some l m =
      let a = is.high_small l m in
      let b = upper_small (lane_sum behind later l n) (s_fits l m) in
      let both = abs_add (get_or was.high l (pos 0)) (int_shr (lane_sum behind later l n) 16) in
      omega arith

  abbrev low_half : ℕ → ℤ
  low_half l = lane_sum behind later l n -ℤ (pos 65536 *ℤ int_shr (lane_sum behind later l n) 16)

  some_low : (l : ℕ) → l < 8 → unsigned_abs (get_or was.low l (pos 0) +ℤ low_half l) ≤ done * 65535 + 65535
  some_low l m =
      let a = is.low_small l m in
      let b = lower_small (lane_sum behind later l n) (s_fits l m) in
      let both = abs_add (get_or was.low l (pos 0)) (low_half l) in
      omega arith

  high_is : (l : ℕ) → l < 8 → get_or now.high l (pos 0) ≡
      get_or was.high l (pos 0) +ℤ int_shr (lane_sum behind later l n) 16
  high_is l m =
      let s = some l m in
      high l m ∙ (ap (λ z. wrap (get_or was.high l (pos 0) +ℤ int_shr z 16)) (sum_is l m)
      ∙ int_wrap_fits w32 (get_or was.high l (pos 0) +ℤ int_shr (lane_sum behind later l n) 16)
      (fits_signed_from_abs w32 (get_or was.high l (pos 0) +ℤ int_shr (lane_sum behind later l n) 16) (omega arith)))

  low_is : (l : ℕ) → l < 8 → get_or now.low l (pos 0) ≡ get_or was.low l (pos 0) +ℤ low_half l
  low_is l m =
      let s = some_low l m in
      low l m ∙ (ap (λ z. wrap (get_or was.low l (pos 0) +ℤ (z -ℤ (pos 65536 *ℤ int_shr z 16)))) (sum_is l m)
      ∙ int_wrap_fits w32 (get_or was.low l (pos 0) +ℤ low_half l)
      (fits_signed_from_abs w32 (get_or was.low l (pos 0) +ℤ low_half l) (omega arith)))

  pub carried_next : 1 ≤ n → AreCarried taps x (done + n) now
  carried_next least = record {
    high = high_lanes;
    low = low_lanes;
    high_small = λ l m. subst (λ z. unsigned_abs z ≤ (done + n) * 32768) (sym (high_is l m))
        (let s = some l m in omega arith);
    low_small = λ l m. subst (λ z. unsigned_abs z ≤ (done + n) * 65535) (sym (low_is l m))
        (let s = some_low l m in omega arith);
    value = λ l m.
        let a = high_is l m in
        let b = low_is l m in
        let before = is.value l m in
        let more = lane_sum_more taps x l done n in
        omega (arith, ints, a, b, before, more);
  }
