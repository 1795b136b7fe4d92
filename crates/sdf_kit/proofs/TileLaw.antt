-- The sum of a tile in a lane is an output of the filter.
use Rattle.std.proofs.Common.{◌≡◌, ℕ, zero, suc, ◌+◌, ◌-◌, ◌*◌, ◌/◌, ◌%◌, ◌<◌, ◌≤◌, ℤ, pos, ◌+ℤ◌, ◌*ℤ◌, List, length}
use Rattle.std.proofs.Common.{take, drop, get_or, sym, ap, ◌∙◌, arith, true, false}
use Rattle.std.specs.Prelude.{cond, nat_le}
use Rattle.std.proofs.lemmas.Int.{ints}
use Rattle.std.proofs.lemmas.Bool.{le-leb, lt-leb}
use Rattle.std.proofs.lemmas.Nat.{div-add-mod', mod_below, div_below, le-div}
use Rattle.std.proofs.lemmas.List.{get_or-take, get_or-drop}
use Rattle.std.proofs.Math.IntN.{zero-*ℤ}
use Rattle.std.proofs.Math.Nat.{add-mul, mul_assoc, mul_comm, mul-le-mul_right, div-mul-le_self, add-mul-mod_self_right}
use Rattle.std.proofs.Math.Nat.{add-mul-div_right}
use Rattle.sdf_kit.specs.Fir.{convolved}
use Rattle.sdf_kit.specs.Samples.{sum_below, upsampled}
use Rattle.sdf_kit.specs.Tiles.{lane_sum, tile_sum, keep_of, reach, tile_tap}
use Rattle.sdf_kit.proofs.Sums.{sum_below-zero, sum_below_more, sum_below_same}
use Rattle.sdf_kit.proofs.Phases.{branch_term, reversed, zero_terms, branch_is}

-- pairs, one number after the other
pub lane_is_sum : (taps x : List ℤ) (l k : ℕ) → lane_sum taps x l k ≡
    sum_below (2 * k) (λ i. get_or taps (16 * (i / 2) + (2 * l + i % 2)) (pos 0) *ℤ get_or x i (pos 0))
lane_is_sum taps x l zero = sym (sum_below-zero (λ i. get_or taps (16 * (i / 2) + (2 * l + i % 2)) (pos 0) *ℤ
    get_or x i (pos 0)))
lane_is_sum taps x l (suc k) =
    let f : ℕ → ℤ = λ i. get_or taps (16 * (i / 2) + (2 * l + i % 2)) (pos 0) *ℤ get_or x i (pos 0) in
    let two : 2 * suc k ≡ 2 * k + 1 + 1 = omega arith in
    let one : 16 * (2 * k / 2) + (2 * l + 2 * k % 2) ≡ 16 * k + 2 * l = omega arith in
    let other : 16 * ((2 * k + 1) / 2) + (2 * l + (2 * k + 1) % 2) ≡ 16 * k + (2 * l + 1) = omega arith in
    let sums : sum_below (2 * suc k) f ≡ (sum_below (2 * k) f +ℤ f (2 * k)) +ℤ f (2 * k + 1) =
    ap (λ n. sum_below n f) two ∙ (sum_below_more (2 * k + 1) f
    ∙ ap (λ z. z +ℤ f (2 * k + 1)) (sum_below_more (2 * k) f)) in
    let first : f (2 * k) ≡ get_or taps (16 * k + 2 * l) (pos 0) *ℤ get_or x (2 * k) (pos 0) =
    ap (λ n. get_or taps n (pos 0) *ℤ get_or x (2 * k) (pos 0)) one in
    let second : f (2 * k + 1) ≡ get_or taps (16 * k + (2 * l + 1)) (pos 0) *ℤ get_or x (2 * k + 1) (pos 0) =
    ap (λ n. get_or taps n (pos 0) *ℤ get_or x (2 * k + 1) (pos 0)) other in
    let ih : lane_sum taps x l k ≡ sum_below (2 * k) f = lane_is_sum taps x l k in
    omega (arith, ints, sums, first, second, ih)

-- a quotient grows with its dividend
div_grows : (m n k : ℕ) → 1 ≤ k → m ≤ n → m / k ≤ n / k
div_grows m n k some less =
    let back : m / k * k ≤ m = div-mul-le_self m k in
    le-div (m / k) n k some (omega arith)

-- a lane of a vector, on the window of a set of firings that begins at sample `base`
module _ (taps row x : List ℤ) (up down firings pairs v l base len : ℕ) (some_up : 1 ≤ up)
    (some_down : 1 ≤ down) (low : l < 8)
    (set : 8 * v + 8 ≤ firings * up) (wide : reach up down v 7 + keep_of taps up < 2 * pairs)
    (many : length row ≡ 16 * pairs)
    (are : (i : ℕ) → i < 2 * pairs → get_or row (16 * (i / 2) + (2 * l + i % 2)) (pos 0) ≡ tile_tap taps up down v l i)
    (room : base + firings * down + keep_of taps up ≤ len) where
  abbrev keep : ℕ
  keep = keep_of taps up

  abbrev j : ℕ
  j = 8 * v + l

  abbrev first : ℕ
  first = base + 8 * v * down / up

  abbrev end : ℕ
  end = reach up down v l + keep

  -- the place of the output, at the higher rate
  abbrev at : ℕ
  at = keep * up + (base * up + j * down)

  far : length taps ≤ keep * up + up
  far =
      let whole : keep * up + (length taps - 1) % up ≡ length taps - 1 = div-add-mod' (length taps - 1) up in
      let less : (length taps - 1) % up < up = mod_below (length taps - 1) up some_up in
      omega arith

  begins : 8 * v * down / up ≤ j * down / up
  begins = div_grows (8 * v * down) (j * down) up some_up (mul-le-mul_right down (let h : 8 * v ≤ j = omega arith in h))

  ends : reach up down v l ≤ reach up down v 7
  ends =
      let above : j * down / up ≤ (8 * v + 7) * down / up =
      div_grows (j * down) ((8 * v + 7) * down) up some_up
      (mul-le-mul_right down (let h : j ≤ 8 * v + 7 = omega arith in h)) in
      omega arith

  placed : at ≡ j * down + (keep + base) * up
  placed = let parts : (keep + base) * up ≡ keep * up + base * up = add-mul keep base up in omega arith

  column : at % up ≡ j * down % up
  column = ap (λ n. n % up) placed ∙ add-mul-mod_self_right (j * down) (keep + base) up

  row_is : at / up ≡ first + end
  row_is =
      let d : at / up ≡ j * down / up + (keep + base) =
      ap (λ n. n / up) placed ∙ add-mul-div_right (j * down) (keep + base) some_up in
      let b = begins in
      omega arith

  within : first + end < len
  within =
      let less : j * down + down ≤ firings * up * down =
      (let parts : (j + 1) * down ≡ j * down + 1 * down = add-mul j 1 down in
      let most : (j + 1) * down ≤ firings * up * down =
      mul-le-mul_right down (let h : j + 1 ≤ firings * up = omega arith in h) in
      omega arith) in
      let turned : firings * up * down ≡ firings * down * up =
      mul_assoc firings up down ∙ (ap (λ n. firings * n) (mul_comm up down) ∙ sym (mul_assoc firings down up)) in
      let last : j * down / up < firings * down = div_below (j * down) up (firings * down) some_up (omega arith) in
      let b = begins in
      omega arith

  abbrev f : ℕ → ℤ
  f i = get_or row (16 * (i / 2) + (2 * l + i % 2)) (pos 0) *ℤ get_or (drop first x) i (pos 0)

  tap : (i : ℕ) → i ≤ end → get_or row (16 * (i / 2) + (2 * l + i % 2)) (pos 0) ≡
      get_or taps (j * down % up + (end - i) * up) (pos 0)
  tap i h =
      let e = ends in
      let test : nat_le i end ≡ true = le-leb i end h in
      are i (omega arith) ∙ ap (λ b. cond b (get_or taps (j * down % up + (end - i) * up) (pos 0)) (pos 0)) test

  none : (i : ℕ) → end + 1 ≤ i → i < 2 * pairs → f i ≡ pos 0
  none i h r =
      let test : nat_le i end ≡ false = lt-leb i end (omega arith) in
      ap (λ z. z *ℤ get_or (drop first x) i (pos 0))
      (are i r ∙ ap (λ b. cond b (get_or taps (j * down % up + (end - i) * up) (pos 0)) (pos 0)) test)
      ∙ zero-*ℤ (get_or (drop first x) i (pos 0))

  term : (k : ℕ) → k < end + 1 → f (end + 1 - 1 - k) ≡ branch_term taps (take len x) up at k
  term k h =
      let r = row_is in
      let w = within in
      let there : end + 1 - 1 - k ≡ end - k = omega arith in
      let back : end - (end - k) ≡ k = omega arith in
      let place : first + (end - k) ≡ at / up - k = omega arith in
      let a : get_or row (16 * ((end - k) / 2) + (2 * l + (end - k) % 2)) (pos 0) ≡
      get_or taps (at % up + k * up) (pos 0) =
      tap (end - k) (omega arith) ∙ (ap (λ n. get_or taps (j * down % up + n * up) (pos 0)) back
      ∙ ap (λ n. get_or taps (n + k * up) (pos 0)) (sym column)) in
      let b : get_or (drop first x) (end - k) (pos 0) ≡ get_or (take len x) (at / up - k) (pos 0) =
      get_or-drop first x (end - k) (pos 0) ∙ (ap (λ n. get_or x n (pos 0)) place
      ∙ sym (get_or-take len x (at / up - k) (pos 0) (omega arith))) in
      ap f there ∙ (ap (λ z. z *ℤ get_or (drop first x) (end - k) (pos 0)) a
      ∙ ap (λ z. get_or taps (at % up + k * up) (pos 0) *ℤ z) b)

  pub tile_is : tile_sum row x first l ≡ convolved taps (upsampled up (take len x)) at
  tile_is =
      let e = ends in
      let r = row_is in
      let n : length row / 16 ≡ pairs = omega (arith, many) in
      let parts : 2 * pairs ≡ end + 1 + (2 * pairs - (end + 1)) = omega arith in
      let reach_all : length taps ≤ at % up + (end + 1) * up =
      (let more : (keep + 1) * up ≤ (end + 1) * up =
      mul-le-mul_right up (let h : keep + 1 ≤ end + 1 = omega arith in h) in
      let one : (keep + 1) * up ≡ keep * up + 1 * up = add-mul keep 1 up in
      let g = far in omega arith) in
      ap (λ m. lane_sum row (drop first x) l m) n
      ∙ (lane_is_sum row (drop first x) l pairs
      ∙ (ap (λ m. sum_below m f) parts
      ∙ (zero_terms (end + 1) (2 * pairs - (end + 1)) f (λ i h g. none i h (omega arith))
      ∙ (reversed (end + 1) f
      ∙ (sum_below_same (end + 1) (λ k. f (end + 1 - 1 - k)) (branch_term taps (take len x) up at) term
      ∙ branch_is taps (take len x) up at (end + 1) some_up (omega arith) reach_all)))))
