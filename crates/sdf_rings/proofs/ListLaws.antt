-- A block's list so many times over.
use Rattle.std.proofs.Common.{◌≡◌, ℕ, zero, suc, ◌+◌, ◌*◌, ◌<◌, ◌≤◌, ◌⊎◌, inl, inr, ◌/◌, ◌%◌, List, length, get_or}
use Rattle.std.proofs.Common.{arith, ap}
use Rattle.std.proofs.Common.{◌∙◌, sym}
use Rattle.std.proofs.Math.Nat.{div-add-mod, div-lt_iff_lt-mul, mod-lt, mul-le-mul}
use Rattle.std.proofs.lemmas.Bool.{cases_lt}
use Rattle.std.proofs.lemmas.List.{get_or_append_left, get_or-append_right, length-append}
use Rattle.sdf_graph.specs.Sequences.{repeated}

pub long : (b : ℕ) (w : List ℕ) → length (repeated b w) ≡ b * length w
long zero w = omega arith
long (suc b) w = omega (arith, length-append (repeated b w) w, long b w)

-- the firings of the block after k others
pub nth : (b k r : ℕ) (w : List ℕ) → k < b → r < length w →
    get_or (repeated b w) (k * length w + r) 0 ≡ get_or w r 0
nth zero k r w h l = omega (arith, h)
nth (suc b) k r w h l = go (cases_lt k b) (λ below. nth b k r w below l)
  where
    go : (k < b) ⊎ (b ≤ k) → (k < b → get_or (repeated b w) (k * length w + r) 0 ≡ get_or w r 0) →
        get_or (repeated (suc b) w) (k * length w + r) 0 ≡ get_or w r 0
    go (inl below) before =
        let most : (k + 1) * length w ≤ b * length w = mul-le-mul (omega (arith, below)) (omega arith) in
        get_or_append_left (repeated b w) w 0 (k * length w + r) (omega (arith, most, l, long b w)) ∙ before below
    go (inr last) before =
        let same : k ≡ b = omega (arith, h, last) in
        let times : k * length w ≡ b * length w = ap (λ m. m * length w) same in
        get_or-append_right (repeated b w) w (b * length w) (k * length w + r) 0 (long b w) (omega (arith, times))
        ∙ ap (λ i. get_or w i 0) (omega (arith, times))

-- a place in the list, and those behind it in its block
module _ (b i : ℕ) (w : List ℕ) (h : i < length (repeated b w)) where
  pub some : 0 < length w
  some = elim (cases_lt 0 (length w)) as (λ _. 0 < length w) [
    | inl one ↦ one
    | inr none ↦
        let no : b * length w ≤ b * 0 = mul-le-mul (omega arith) none in
        omega (arith, h, no, long b w)
  ]

  pub within : i % length w < length w
  within = mod-lt i some

  before : i / length w < b
  before = (div-lt_iff_lt-mul some).1 (omega (arith, h, long b w))

  split : i ≡ i / length w * length w + i % length w
  split = omega (arith, div-add-mod i (length w))

  pub from : (j : ℕ) → i % length w + j < length w →
      get_or (repeated b w) (i + j) 0 ≡ get_or w (i % length w + j) 0
  from j l =
      ap (λ p. get_or (repeated b w) p 0) (omega (arith, split)) ∙ nth b (i / length w) (i % length w + j) w before l

  pub here : get_or (repeated b w) i 0 ≡ get_or w (i % length w) 0
  here =
      ap (λ p. get_or (repeated b w) p 0) (omega (arith, split)) ∙ nth b (i / length w) (i % length w) w before within

  pub inside : (j : ℕ) → i % length w + j ≤ length w → i + j ≤ length (repeated b w)
  inside j l =
      let most : (i / length w + 1) * length w ≤ b * length w = mul-le-mul (omega (arith, before)) (omega arith) in
      omega (arith, most, split, l, long b w)

  pub row : (m : ℕ) → i % length w + m ≤ length w →
      ((j : ℕ) → j < m → get_or w (i % length w) 0 ≡ get_or w (i % length w + j) 0) → (j : ℕ) → j < m →
      get_or (repeated b w) i 0 ≡ get_or (repeated b w) (i + j) 0
  row m l same j h = here ∙ (same j h ∙ sym (from j (omega (arith, l, h))))
