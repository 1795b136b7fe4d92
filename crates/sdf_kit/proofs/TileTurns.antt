-- Outputs that are put tile by tile, and turn by turn.
use Rattle.std.proofs.Common.{◌≡◌, ℕ, ◌+◌, ◌-◌, ◌*◌, ◌/◌, ◌%◌, ◌<◌, ◌≤◌, ℤ, pos, List, length, inl, inr}
use Rattle.std.proofs.Common.{get_or, refl, sym, ap, ◌∙◌, arith, ⊎_elim}
use Rattle.std.proofs.lemmas.Bool.{cases_lt}
use Rattle.std.proofs.lemmas.Nat.{div-add-mod', mod_below, div_below}
use Rattle.std.proofs.Math.Nat.{add-mul, mul_assoc, mul-le-mul_right}
use Rattle.sdf_kit.specs.Tiles.{IsApart, IsTurn}

pub turn_begins : (f : ℕ → ℤ) (done firings up : ℕ) (old : List ℤ) → IsTurn f done firings up old old 0
turn_begins f done firings up old = record {
  len = refl;
  before = λ n l. refl;
  put = λ w k l h. absurd (omega arith);
}

-- one vector more
module _ (f : ℕ → ℤ) (done firings up m at stride : ℕ) (old mid new : List ℤ) (was : IsTurn f done firings up old mid m)
    (at_is : at ≡ done * up + m) (stride_is : stride ≡ firings * up) (room : m + 8 ≤ stride)
    (len : length new ≡ length mid)
    (value : (w l : ℕ) → w < 4 → l < 8 → get_or new (at + w * stride + l) (pos 0) ≡
    f ((done + w * firings) * up + (m + l)))
    (others : (n : ℕ) → ((w : ℕ) → w < 4 → IsApart (at + w * stride) n) →
    get_or new n (pos 0) ≡ get_or mid n (pos 0)) where
  -- where the outputs of a set begin
  begins : (w : ℕ) → (done + w * firings) * up ≡ done * up + w * stride
  begins w =
      let parts : (done + w * firings) * up ≡ done * up + w * firings * up = add-mul done (w * firings) up in
      let turned : w * firings * up ≡ w * (firings * up) = mul_assoc w firings up in
      let same : w * (firings * up) ≡ w * stride = ap (λ n. w * n) (sym stride_is) in
      omega arith

  apart : (w k : ℕ) → k < m → (u : ℕ) → IsApart (at + u * stride) (done * up + w * stride + k)
  apart w k l u = ⊎_elim
      (λ less.
      let more : (w + 1) * stride ≤ u * stride = mul-le-mul_right stride (let h : w + 1 ≤ u = omega arith in h) in
      let parts : (w + 1) * stride ≡ w * stride + 1 * stride = add-mul w 1 stride in
      inl (omega (arith, at_is, room)))
      (λ over. ⊎_elim
      (λ less.
      let more : (u + 1) * stride ≤ w * stride = mul-le-mul_right stride (let h : u + 1 ≤ w = omega arith in h) in
      let parts : (u + 1) * stride ≡ u * stride + 1 * stride = add-mul u 1 stride in
      inr (omega (arith, at_is, room)))
      (λ under.
      let same : w ≡ u = omega arith in
      let both : w * stride ≡ u * stride = ap (λ n. n * stride) same in
      inl (omega (arith, at_is)))
      (cases_lt u w)) (cases_lt w u)

  pub turn_more : IsTurn f done firings up old new (m + 8)
  turn_more = record {
    len = len ∙ was.len;
    before = λ n l. others n (λ w h. inl (omega (arith, at_is))) ∙ was.before n l;
    put = λ w k few low. ⊎_elim
        (λ less.
        let place : (done + w * firings) * up + k ≡ done * up + w * stride + k = ap (λ n. n + k) (begins w) in
        ap (λ n. get_or new n (pos 0)) place
        ∙ (others (done * up + w * stride + k) (λ u h. apart w k less u)
        ∙ (ap (λ n. get_or mid n (pos 0)) (sym place) ∙ was.put w k few less)))
        (λ over.
        let l : ℕ = k - m in
        let k_is : m + l ≡ k = omega arith in
        let b = begins w in
        let place : (done + w * firings) * up + k ≡ at + w * stride + l = omega (arith, at_is) in
        ap (λ n. get_or new n (pos 0)) place
        ∙ (value w l few (omega arith) ∙ ap (λ n. f ((done + w * firings) * up + n)) k_is))
        (cases_lt k m);
  }

-- all outputs of a turn
pub turn_all : (f : ℕ → ℤ) (done firings up m : ℕ) (old new : List ℤ) → IsTurn f done firings up old new m →
    m ≡ firings * up → 1 ≤ m → ((n : ℕ) → n < done * up → get_or old n (pos 0) ≡ f n) → (n : ℕ) →
    n < (done + 4 * firings) * up → get_or new n (pos 0) ≡ f n
turn_all f done firings up m old new is whole some before n l = ⊎_elim
    (λ less. is.before n less ∙ before n less)
    (λ over.
    let r : ℕ = n - done * up in
    let w : ℕ = r / m in
    let k : ℕ = r % m in
    let parts : (done + 4 * firings) * up ≡ done * up + 4 * firings * up = add-mul done (4 * firings) up in
    let turned : 4 * firings * up ≡ 4 * (firings * up) = mul_assoc 4 firings up in
    let few : w < 4 = div_below r m 4 some (omega (arith, whole)) in
    let low : k < m = mod_below r m some in
    let back : w * m + k ≡ r = div-add-mod' r m in
    let sets : (done + w * firings) * up ≡ done * up + w * firings * up = add-mul done (w * firings) up in
    let inner : w * firings * up ≡ w * (firings * up) = mul_assoc w firings up in
    let same : w * (firings * up) ≡ w * m = ap (λ z. w * z) (sym whole) in
    let place : (done + w * firings) * up + k ≡ n = omega arith in
    ap (λ z. get_or new z (pos 0)) (sym place) ∙ (is.put w k few low ∙ ap f place))
    (cases_lt n (done * up))
