-- One branch of a polyphase filter: the taps of one phase against the newest samples.
use Rattle.std.proofs.Common.{[], ◌∷◌, ◌++◌, sym, refl, ◌≡◌, ℕ, zero, suc, ◌+◌, ◌*◌, ◌/◌, ◌%◌, ◌<◌, ◌≤◌, ◌-◌, ℤ, pos}
use Rattle.std.proofs.Common.{◌+ℤ◌, ◌*ℤ◌, List, length, get_or, take, drop, replicate, ◌∙◌, ap, arith, ◌⊎◌, inl, inr}
use Rattle.std.proofs.lemmas.Int.{ints}
use Rattle.std.proofs.lemmas.List.{get_or_past, length-take-le, length-drop, length-append, length-replicate}
use Rattle.std.proofs.lemmas.List.{get_or-take, get_or-drop, get_or-append-add}
use Rattle.std.proofs.lemmas.List.FromFn.{length-map-range_with_len, get_or-map-range_with_len}
use Rattle.std.proofs.lemmas.Nat.{div-add-mod', mod_below}
use Rattle.std.proofs.Math.IntN.{zero-*ℤ}
use Rattle.std.proofs.Math.Nat.{zero-mul, suc-mul, add-mul, mul-le-mul_right, add-mul-mod_self_right, add-mul-div_right}
use Rattle.sdf_kit.specs.Fir.{convolved}
use Rattle.sdf_kit.specs.Samples.{sum_below, upsampled}
use Rattle.sdf_kit.proofs.Sums.{sum_below-zero, sum_below_more, sum_below-suc, sum_below_same}
use Rattle.sdf_kit.specs.Dots.{dot}
use Rattle.sdf_kit.specs.Branches.{branch}
use Rattle.sdf_kit.proofs.Weighted.{weighted, convolved_is}
use Rattle.sdf_kit.proofs.Thinned.{rest, rest_begins, rest_step, rest_none}

-- tap k of the phase of place at, times the sample k before the newest one
abbrev pub branch_term : List ℤ → List ℤ → ℕ → ℕ → ℕ → ℤ
branch_term taps w up at k = get_or taps (at % up + k * up) (pos 0) *ℤ get_or w (at / up - k) (pos 0)

less_or : (m n : ℕ) → (m < n) ⊎ (n ≤ m)
less_or zero zero = inr (omega arith)
less_or zero (suc n) = inl (omega arith)
less_or (suc m) zero = inr (omega arith)
less_or (suc m) (suc n) = elim (less_or m n) [ inl h ↦ inl (omega (arith, h)) | inr h ↦ inr (omega (arith, h)) ]

-- one tap of the phase more, also past the taps' end
more : (taps w : List ℤ) (up k t : ℕ) → 0 < up →
    rest (drop k taps) up w (suc t) ≡ (get_or taps k (pos 0) *ℤ get_or w t (pos 0)) +ℤ rest (drop (k + up) taps) up w t
more taps w up k t some = elim (less_or k (length taps)) [ inl h ↦ rest_step taps up w k t some h | inr h ↦ over h ]
  where
    over : length taps ≤ k → rest (drop k taps) up w (suc t) ≡
        (get_or taps k (pos 0) *ℤ get_or w t (pos 0)) +ℤ rest (drop (k + up) taps) up w t
    over h =
        let none : rest (drop k taps) up w (suc t) ≡ pos 0 = rest_none taps up w k (suc t) h in
        let later : rest (drop (k + up) taps) up w t ≡ pos 0 = rest_none taps up w (k + up) t (omega arith) in
        let past : get_or taps k (pos 0) ≡ pos 0 = get_or_past taps k (pos 0) h in
        rw (none, later, past) (omega (arith, ints))

partial : (taps w : List ℤ) (up at n : ℕ) → 0 < up → n ≤ at / up + 1 →
    sum_below n (branch_term taps w up at) +ℤ rest (drop (at % up + n * up) taps) up w (at / up + 1 - n) ≡
    weighted taps (upsampled up w) at
partial taps w up at zero some few =
    let none : zero * up ≡ zero = zero-mul up in
    let same : at % up + zero ≡ at % up = omega arith in
    let all : at / up + 1 - zero ≡ at / up + 1 = omega arith in
    let begins : rest (drop (at % up) taps) up w (at / up + 1) ≡ weighted taps (upsampled up w) at =
    rest_begins taps up w at some in
    let empty : sum_below zero (branch_term taps w up at) ≡ pos 0 = sum_below-zero (branch_term taps w up at) in
    rw (none, same, all, empty) (omega (arith, ints))
partial taps w up at (suc n) some few =
    let ih : sum_below n (branch_term taps w up at) +ℤ rest (drop (at % up + n * up) taps) up w (at / up + 1 - n) ≡
    weighted taps (upsampled up w) at = partial taps w up at n some (omega arith) in
    let left : at / up + 1 - n ≡ suc (at / up - n) = omega arith in
    let now : at / up + 1 - suc n ≡ at / up - n = omega arith in
    let wide : suc n * up ≡ n * up + up = suc-mul n up in
    let place : at % up + suc n * up ≡ at % up + n * up + up = omega arith in
    let step = more taps w up (at % up + n * up) (at / up - n) some in
    let was = rw left at ih in
    let one : suc n ≡ n + 1 = omega arith in
    let sum : sum_below (suc n) (branch_term taps w up at) ≡
    sum_below n (branch_term taps w up at) +ℤ branch_term taps w up at n =
    ap (λ m. sum_below m (branch_term taps w up at)) one ∙ sum_below_more n (branch_term taps w up at) in
    rw (place, now, sum) (omega (arith, ints, step, was))

-- so many taps of the phase as there are are the whole sum
pub branch_is : (taps w : List ℤ) (up at n : ℕ) → 0 < up → n ≤ at / up + 1 → length taps ≤ at % up + n * up →
    sum_below n (branch_term taps w up at) ≡ convolved taps (upsampled up w) at
branch_is taps w up at n some few over =
    let p = partial taps w up at n some few in
    let none : rest (drop (at % up + n * up) taps) up w (at / up + 1 - n) ≡ pos 0 =
    rest_none taps up w (at % up + n * up) (at / up + 1 - n) over in
    let written : convolved taps (upsampled up w) at ≡ weighted taps (upsampled up w) at =
    convolved_is taps (upsampled up w) at in
    rw written (omega (arith, ints, p, none))

dot_sum : (n : ℕ) (h x : List ℤ) → length h ≡ n → length x ≡ n →
    dot h x ≡ sum_below n (λ i. get_or h i (pos 0) *ℤ get_or x i (pos 0))
dot_sum zero [] x e f = sym (sum_below-zero (λ i. get_or [] i (pos 0) *ℤ get_or x i (pos 0)))
dot_sum zero (h ∷ hs) x e f = absurd (omega (arith, e))
dot_sum (suc n) [] x e f = absurd (omega (arith, e))
dot_sum (suc n) (h ∷ hs) [] e f = absurd (omega (arith, f))
dot_sum (suc n) (h ∷ hs) (x ∷ xs) e f =
    ap (λ z. (h *ℤ x) +ℤ z) (dot_sum n hs xs (omega (arith, e)) (omega (arith, f)))
    ∙ sym (sum_below-suc n (λ i. get_or (h ∷ hs) i (pos 0) *ℤ get_or (x ∷ xs) i (pos 0)))

pub reversed : (n : ℕ) (f : ℕ → ℤ) → sum_below n f ≡ sum_below n (λ k. f (n - 1 - k))
reversed zero f = sum_below-zero f ∙ sym (sum_below-zero (λ k. f (zero - 1 - k)))
reversed (suc n) f =
    let one : suc n ≡ n + 1 = omega arith in
    let first : sum_below (suc n) f ≡ sum_below n f +ℤ f n = ap (λ m. sum_below m f) one ∙ sum_below_more n f in
    let ih : sum_below n f ≡ sum_below n (λ k. f (n - 1 - k)) = reversed n f in
    let apart : sum_below (suc n) (λ k. f (suc n - 1 - k)) ≡
    f (suc n - 1 - 0) +ℤ sum_below n (λ k. f (suc n - 1 - suc k)) = sum_below-suc n (λ k. f (suc n - 1 - k)) in
    let head : f (suc n - 1 - 0) ≡ f n = ap f (omega arith) in
    let tail : sum_below n (λ k. f (suc n - 1 - suc k)) ≡ sum_below n (λ k. f (n - 1 - k)) =
    sum_below_same n (λ k. f (suc n - 1 - suc k)) (λ k. f (n - 1 - k)) (λ k l. ap f (omega arith)) in
    omega (arith, ints, first, ih, apart, head, tail)

pub zero_terms : (n m : ℕ) (f : ℕ → ℤ) → ((k : ℕ) → n ≤ k → k < n + m → f k ≡ pos 0) →
    sum_below (n + m) f ≡ sum_below n f
zero_terms n zero f none = let e : n + zero ≡ n = omega arith in ap (λ k. sum_below k f) e
zero_terms n (suc m) f none =
    let e : n + suc m ≡ n + m + 1 = omega arith in
    let last : f (n + m) ≡ pos 0 = none (n + m) (omega arith) (omega arith) in
    let before : sum_below (n + m) f ≡ sum_below n f = zero_terms n m f (λ k l r. none k l (omega arith)) in
    ap (λ k. sum_below k f) e ∙ (sum_below_more (n + m) f ∙ rw (last, before) (omega (arith, ints)))

-- The taps of the phase of a place, the last one first, against a window that ends at its newest sample: `keep` samples
-- before it are enough, and zeros stand before those.
module _ (taps : List ℤ) (up : ℕ) (some_up : 1 ≤ up) (x : List ℤ) (pad width at t : ℕ)
    (wide : pad + (length taps - 1) / up + 1 ≡ width) (place : t + (length taps - 1) / up * up ≡ at)
    (room : t / up + (length taps - 1) / up < length x) where
  abbrev keep : ℕ
  keep = (length taps - 1) / up

  far : length taps ≤ keep * up + up
  far =
      let whole : keep * up + (length taps - 1) % up ≡ length taps - 1 = div-add-mod' (length taps - 1) up in
      let less : (length taps - 1) % up < up = mod_below (length taps - 1) up some_up in
      omega arith

  abbrev padded : ℕ → List ℤ → List ℤ
  padded pad x = replicate pad (pos 0) ++ x

  abbrev p : ℕ
  p = t % up

  abbrev h : List ℤ
  h = branch taps up p width

  abbrev w : List ℤ
  w = take width (drop (t / up) (padded pad x))

  column : at % up ≡ p
  column = ap (λ n. n % up) (sym place) ∙ add-mul-mod_self_right t keep up

  row : at / up ≡ t / up + keep
  row = ap (λ n. n / up) (sym place) ∙ add-mul-div_right t keep some_up

  parts : width ≡ keep + 1 + pad
  parts = omega (arith, wide)

  reach : length taps ≤ at % up + (keep + 1) * up
  reach = let one : (keep + 1) * up ≡ keep * up + 1 * up = add-mul keep 1 up in let f = far in omega arith

  size : length (padded pad x) ≡ pad + length x
  size = length-append (replicate pad (pos 0)) x ∙ ap (λ n. n + length x) (length-replicate pad (pos 0))

  h_long : length h ≡ width
  h_long = length-map-range_with_len (λ i. get_or taps (p + (width - 1 - i) * up) (pos 0)) 0 width

  w_long : length w ≡ width
  w_long = length-take-le width (drop (t / up) (padded pad x))
      (omega (arith, length-drop (t / up) (padded pad x), size, wide, room))

  tap : (k : ℕ) → k < width → get_or h (width - 1 - k) (pos 0) ≡ get_or taps (at % up + k * up) (pos 0)
  tap k l =
      let back : width - 1 - (width - 1 - k) ≡ k = omega arith in
      let is = get_or-map-range_with_len (λ i. get_or taps (p + (width - 1 - i) * up) (pos 0)) 0 width (width - 1 - k)
      (width - 1 - k) (pos 0) (omega arith) (omega arith) in
      is ∙ (ap (λ n. get_or taps (p + n * up) (pos 0)) back ∙ ap (λ n. get_or taps (n + k * up) (pos 0)) (sym column))

  past : (k : ℕ) → keep + 1 ≤ k → get_or taps (at % up + k * up) (pos 0) ≡ pos 0
  past k l =
      let more : (keep + 1) * up ≤ k * up = mul-le-mul_right up l in
      let r = reach in
      get_or_past taps (at % up + k * up) (pos 0) (omega arith)

  none : (k : ℕ) → keep + 1 ≤ k → k < keep + 1 + pad → branch_term taps x up at k ≡ pos 0
  none k l r = ap (λ z. z *ℤ get_or x (at / up - k) (pos 0)) (past k l) ∙ zero-*ℤ (get_or x (at / up - k) (pos 0))

  seen : (k : ℕ) → k ≤ keep → get_or w (width - 1 - k) (pos 0) ≡ get_or x (at / up - k) (pos 0)
  seen k l =
      let zs : length (replicate pad (pos 0)) ≡ pad = length-replicate pad (pos 0) in
      let there : t / up + (width - 1 - k) ≡ length (replicate pad (pos 0)) + (at / up - k) =
      omega (arith, row, wide) in
      get_or-take width (drop (t / up) (padded pad x)) (width - 1 - k) (pos 0) (omega (arith, wide)) ∙
      (get_or-drop (t / up) (padded pad x) (width - 1 - k) (pos 0) ∙
      (ap (λ n. get_or (padded pad x) n (pos 0)) there
      ∙ get_or-append-add (replicate pad (pos 0)) x (at / up - k) (pos 0)))

  same : (k : ℕ) → k < width → get_or h (width - 1 - k) (pos 0) *ℤ get_or w (width - 1 - k) (pos 0) ≡
      branch_term taps x up at k
  same k l = elim (less_or k (keep + 1)) [
    | inl m ↦ (let a = tap k l in let b = seen k (omega arith) in rw (a, b) refl)
    | inr m ↦ (ap (λ z. z *ℤ get_or w (width - 1 - k) (pos 0)) (tap k l ∙ past k m)
        ∙ zero-*ℤ (get_or w (width - 1 - k) (pos 0))) ∙
        sym (ap (λ z. z *ℤ get_or x (at / up - k) (pos 0)) (past k m) ∙ zero-*ℤ (get_or x (at / up - k) (pos 0)))
  ]

  pub window_dot : dot (branch taps up (t % up) width) (take width (drop (t / up) (padded pad x))) ≡
      convolved taps (upsampled up x) at
  window_dot =
      dot_sum width h w h_long w_long ∙ (reversed width (λ i. get_or h i (pos 0) *ℤ get_or w i (pos 0)) ∙
      (sum_below_same width (λ k. get_or h (width - 1 - k) (pos 0) *ℤ get_or w (width - 1 - k) (pos 0))
      (branch_term taps x up at) same ∙
      (ap (λ n. sum_below n (branch_term taps x up at)) parts
      ∙ (zero_terms (keep + 1) pad (branch_term taps x up at) none ∙
      branch_is taps x up at (keep + 1) some_up (omega (arith, row)) (omega (arith, reach))))))
