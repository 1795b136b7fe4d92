-- The sums of a tile on four windows, and the places where they are put.
use Rattle.std.proofs.Common.{◌≡◌, ℕ, zero, suc, ◌+◌, ◌*◌, ◌/◌, ◌<◌, ◌≤◌, ℤ, pos, ◌+ℤ◌, ◌*ℤ◌, List, length, map, inl}
use Rattle.std.proofs.Common.{take, drop, get_or, of_z, to_z, w32, unsigned_abs, refl, ap, ◌∙◌, arith}
use Rattle.std.proofs.lemmas.Int.{int_wrap_fits, fits_signed_from_abs}
use Rattle.std.proofs.lemmas.List.{get_or-take, length-take-le, length-drop}
use Rattle.sdf_kit.specs.Dots.{wrap}
use Rattle.sdf_kit.specs.Tiles.{pair_sum, lane_sum, tile_sum, AreTileSums, IsApart}
use Rattle.sdf_kit.proofs.LaneTotals.{same_lanes}

-- only the first samples are read
pub lane_sum_seen : (taps x : List ℤ) (m l k : ℕ) → 2 * k ≤ m → lane_sum taps (take m x) l k ≡ lane_sum taps x l k
lane_sum_seen taps x m l zero few = refl
lane_sum_seen taps x m l (suc k) few =
    let before : lane_sum taps (take m x) l k ≡ lane_sum taps x l k = lane_sum_seen taps x m l k (omega arith) in
    let first : get_or (take m x) (2 * k) (pos 0) ≡ get_or x (2 * k) (pos 0) =
    get_or-take m x (2 * k) (pos 0) (omega arith) in
    let second : get_or (take m x) (2 * k + 1) (pos 0) ≡ get_or x (2 * k + 1) (pos 0) =
    get_or-take m x (2 * k + 1) (pos 0) (omega arith) in
    let here : pair_sum taps (take m x) l k ≡ pair_sum taps x l k =
    ap (λ z. (get_or taps (16 * k + 2 * l) (pos 0) *ℤ z)
    +ℤ (get_or taps (16 * k + (2 * l + 1)) (pos 0) *ℤ get_or (take m x) (2 * k + 1) (pos 0))) first
    ∙ ap (λ z. (get_or taps (16 * k + 2 * l) (pos 0) *ℤ get_or x (2 * k) (pos 0))
    +ℤ (get_or taps (16 * k + (2 * l + 1)) (pos 0) *ℤ z)) second in
    ap (λ z. z +ℤ pair_sum taps (take m x) l k) before ∙ ap (λ z. lane_sum taps x l k +ℤ z) here

-- sums that are small are exact
pub exact_sum : (taps x piece : List ℤ) (first n len l : ℕ) (sums : List ℤ) → AreTileSums taps piece n sums →
    piece ≡ take len (drop first x) → n ≡ length taps / 16 → 2 * n ≤ len → l < 8 →
    unsigned_abs (tile_sum taps x first l) ≤ 2147467263 → get_or sums l (pos 0) ≡ tile_sum taps x first l
exact_sum taps x piece first n len l sums are is many few low small =
    let seen : lane_sum taps piece l n ≡ tile_sum taps x first l =
    ap (λ p. lane_sum taps p l n) is ∙ (lane_sum_seen taps (drop first x) len l n few
    ∙ ap (λ k. lane_sum taps (drop first x) l k) many) in
    are.each l low ∙ (ap wrap seen ∙ int_wrap_fits w32 (tile_sum taps x first l)
    (fits_signed_from_abs w32 (tile_sum taps x first l) (omega arith)))

-- the same as a call passes them
pub sent_sum : (taps x piece : List ℤ) (first n len l : ℕ) (sums : List ℤ) → AreTileSums taps piece n sums →
    piece ≡ take len (drop first x) → n ≡ length taps / 16 → 2 * n ≤ len → l < 8 →
    unsigned_abs (tile_sum taps x first l) ≤ 2147467263 →
    get_or (map (to_z w32) (map (of_z w32) sums)) l (pos 0) ≡ tile_sum taps x first l
sent_sum taps x piece first n len l sums are is many few low small =
    ap (λ s. get_or s l (pos 0)) (same_lanes w32 sums are.lanes.fits)
    ∙ exact_sum taps x piece first n len l sums are is many few low small

-- the pairs of a piece
pub piece_pairs : (x piece : List ℤ) (first len n : ℕ) → n ≡ 16 * (n / 16) → len ≡ n / 8 → first + len ≤ length x →
    piece ≡ take len (drop first x) → length piece / 2 ≡ n / 16
piece_pairs x piece first len n whole eighth room is =
    let long : length piece ≡ len =
    ap length is ∙ length-take-le len (drop first x) (omega (arith, length-drop first x)) in
    omega arith

-- eight values, put at four places one after another
module _ (f : ℕ → ℕ → ℤ) (at stride : ℕ) (p0 p1 p2 p3 p4 : List ℤ) (wide : 8 ≤ stride)
    (done_a : (l : ℕ) → l < 8 → get_or p1 (at + l) (pos 0) ≡ f 0 l)
    (done_b : (l : ℕ) → l < 8 → get_or p2 (at + stride + l) (pos 0) ≡ f 1 l)
    (others_b : (n : ℕ) → IsApart (at + stride) n → get_or p2 n (pos 0) ≡ get_or p1 n (pos 0))
    (done_c : (l : ℕ) → l < 8 → get_or p3 (at + 2 * stride + l) (pos 0) ≡ f 2 l)
    (others_c : (n : ℕ) → IsApart (at + 2 * stride) n → get_or p3 n (pos 0) ≡ get_or p2 n (pos 0))
    (done_d : (l : ℕ) → l < 8 → get_or p4 (at + 3 * stride + l) (pos 0) ≡ f 3 l)
    (others_d : (n : ℕ) → IsApart (at + 3 * stride) n → get_or p4 n (pos 0) ≡ get_or p3 n (pos 0)) where
  pub four_put : (w l : ℕ) → w < 4 → l < 8 → get_or p4 (at + w * stride + l) (pos 0) ≡ f w l
  four_put zero l few low =
      let here : at + 0 * stride + l ≡ at + l = omega arith in
      ap (λ n. get_or p4 n (pos 0)) here
      ∙ (others_d (at + l) (inl (omega arith)) ∙ (others_c (at + l) (inl (omega arith))
      ∙ (others_b (at + l) (inl (omega arith)) ∙ done_a l low)))
  four_put (suc zero) l few low =
      let here : at + 1 * stride + l ≡ at + stride + l = omega arith in
      ap (λ n. get_or p4 n (pos 0)) here
      ∙ (others_d (at + stride + l) (inl (omega arith))
      ∙ (others_c (at + stride + l) (inl (omega arith)) ∙ done_b l low))
  four_put (suc (suc zero)) l few low = others_d (at + 2 * stride + l) (inl (omega arith)) ∙ done_c l low
  four_put (suc (suc (suc zero))) l few low = done_d l low
  four_put (suc (suc (suc (suc w)))) l few low = absurd (omega arith)
