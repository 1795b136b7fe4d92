-- The sums of a tile by their halves.
use Rattle.std.proofs.Common.{◌≡◌, ℕ, ◌+◌, ◌*◌, ◌/◌, ◌^◌, ◌<◌, ◌≤◌, ℤ, pos, ◌+ℤ◌, ◌*ℤ◌, List, length, take, drop}
use Rattle.std.proofs.Common.{get_or}
use Rattle.std.proofs.Common.{FitsSigned, unsigned_abs, sym, ap, subst, ◌∙◌, arith}
use Rattle.std.specs.Int.{w16}
use Rattle.std.specs.Simd.Lanes.{Each1}
use Rattle.std.proofs.lemmas.List.{get_or-drop}
use Rattle.std.proofs.lemmas.Simd.{Each1-get_or}
use Rattle.std.proofs.Math.Nat.{mul-le-mul_right}
use Rattle.sdf_kit.specs.Stretches.{weight_of}
use Rattle.sdf_kit.specs.Tiles.{lane_sum, tile_sum, AreRowStretches, AreCarried}
use Rattle.sdf_kit.specs.declared.carries.Carried.{Carried}
use Rattle.sdf_kit.proofs.FourTiles.{lane_sum_seen}
use Rattle.sdf_kit.proofs.CarriedSteps.{lane_small}

module _ (taps x piece : List ℤ) (stretches : List ℕ) (first len l shift : ℕ) (carried : Carried)
    (are : AreCarried taps piece (length stretches) carried) (rows : AreRowStretches taps stretches)
    (total : weight_of (length stretches) taps ≤ 65535 * 2 ^ shift)
    (is : piece ≡ take len (drop first x)) (len_is : len ≡ 2 * length stretches) (room : first + len ≤ length x)
    (short : Each1 (FitsSigned w16) x) (low : l < 8) where
  n_is : length stretches ≡ length taps / 16
  n_is = omega (arith, rows.many)

  pub carried_sum : (pos 65536 *ℤ get_or carried.high l (pos 0)) +ℤ get_or carried.low l (pos 0) ≡
      tile_sum taps x first l
  carried_sum =
      are.value l low ∙ (ap (λ p. lane_sum taps p l (length stretches)) is
      ∙ (lane_sum_seen taps (drop first x) len l (length stretches) (omega arith)
      ∙ ap (λ k. lane_sum taps (drop first x) l k) n_is))

  pub carried_low : unsigned_abs (get_or carried.low l (pos 0)) ≤ 67108864
  carried_low = let s = are.low_small l low in let f = rows.few in omega arith

  pub carried_small :
      unsigned_abs ((pos 65536 *ℤ get_or carried.high l (pos 0)) +ℤ get_or carried.low l (pos 0)) ≤
      2147450880 * 2 ^ shift
  carried_small =
      let fits : (k : ℕ) → k < 2 * length stretches → FitsSigned w16 (get_or (drop first x) k (pos 0)) =
      (λ k h. subst (FitsSigned w16) (sym (get_or-drop first x k (pos 0)))
      (Each1-get_or (FitsSigned w16) x (first + k) (pos 0) (omega arith) short)) in
      let small = lane_small taps (drop first x) l (length stretches) fits low (omega (arith, rows.many)) in
      let most : weight_of (length stretches) taps * 32768 ≤ 65535 * 2 ^ shift * 32768 = mul-le-mul_right 32768 total in
      let same : (pos 65536 *ℤ get_or carried.high l (pos 0)) +ℤ get_or carried.low l (pos 0) ≡
      lane_sum taps (drop first x) l (length stretches) =
      carried_sum ∙ sym (ap (λ k. lane_sum taps (drop first x) l k) n_is) in
      subst (λ z. unsigned_abs z ≤ 2147450880 * 2 ^ shift) (sym same) (omega arith)
