-- Weights of taps, and dot products a stretch at a time.
use Rattle.std.proofs.Common.{◌≡◌, ◌≤◌, ◌<◌, ℕ, zero, suc, ◌+◌, ◌-◌, ◌*◌, ◌/◌, ◌%◌, ◌^◌, ℤ, pos, ◌+ℤ◌, ◌*ℤ◌, List, []}
use Rattle.std.proofs.Common.{◌∷◌, length, take, drop, get_or, w64, FitsSigned, unsigned_abs, max, refl, sym, ap, subst}
use Rattle.std.proofs.Common.{◌∙◌}
use Rattle.std.proofs.Common.{arith, nat_cmp}
use Rattle.std.specs.Ordering.{ord_max}
use Rattle.std.specs.Int.{w16}
use Rattle.std.specs.Simd.Lanes.{Each1}
use Rattle.std.proofs.lemmas.Int.{fits_signed_from_abs}
use Rattle.std.proofs.lemmas.Simd.{Each1-chunk}
use Rattle.std.proofs.lemmas.List.{take_all, drop-take, take-take, length-take-le, length-drop}
use Rattle.sdf_kit.specs.Dots.{dot}
use Rattle.sdf_kit.specs.Stretches.{weight, weight_of, IsStretch, IsReach, AreStretches, AreVectors, AreSeen}
use Rattle.sdf_kit.proofs.Settling.{abs_add}
use Rattle.sdf_kit.proofs.LaneSums.{product_small}
use Rattle.sdf_kit.proofs.Lanes.{abs_16}
use Rattle.sdf_kit.proofs.LaneTotals.{dot_more}

-- one pair more
pub weight_more : (xs : List ℤ) (i : ℕ) → 2 * i + 1 < length xs → weight (take (2 * (i + 1)) xs) ≡
    max (weight (take (2 * i) xs)) (unsigned_abs (get_or xs (2 * i) (pos 0))
    + unsigned_abs (get_or xs (2 * i + 1) (pos 0)))
weight_more [] i l = absurd (omega arith)
weight_more (x ∷ []) i l = absurd (omega arith)
weight_more (x ∷ y ∷ xs) zero l = omega arith
weight_more (x ∷ y ∷ xs) (suc i) l =
    let e : 2 * (suc i + 1) ≡ suc (suc (2 * (i + 1))) = omega arith in
    let f : 2 * suc i ≡ suc (suc (2 * i)) = omega arith in
    let g : 2 * suc i + 1 ≡ suc (suc (2 * i + 1)) = omega arith in
    let above = ap (λ n. weight (take n (x ∷ y ∷ xs))) e in
    let below = ap (λ n. weight (take n (x ∷ y ∷ xs))) f in
    let first = ap (λ n. unsigned_abs (get_or (x ∷ y ∷ xs) n (pos 0))) f in
    let second = ap (λ n. unsigned_abs (get_or (x ∷ y ∷ xs) n (pos 0))) g in
    let ih = weight_more xs i (omega arith) in
    omega (arith, above, below, first, second, ih)

pub max_is : (a b : ℕ) → ord_max nat_cmp a b ≡ max a b
max_is a b = grind arith

-- the weight of the first sixteens is that of the whole list's
pub weight_of_front : (n room : ℕ) (h : List ℤ) → 16 * n ≤ room → weight_of n (take room h) ≡ weight_of n h
weight_of_front zero room h l = refl
weight_of_front (suc n) room h l =
    let ih = weight_of_front n room h (omega arith) in
    let e : 16 * n + (room - 16 * n) ≡ room = omega arith in
    let same : take 16 (drop (16 * n) (take room h)) ≡ take 16 (drop (16 * n) h) =
    ap (λ r. take 16 (drop (16 * n) (take r h))) (sym e)
    ∙ (ap (take 16) (drop-take (16 * n) (room - 16 * n) h)
    ∙ take-take 16 (room - 16 * n) (drop (16 * n) h) (omega arith)) in
    rw (ih, same) refl

-- a dot product of numbers of 16 bits
pub dot_small : (h x : List ℤ) → Each1 (FitsSigned w16) h → Each1 (FitsSigned w16) x →
    unsigned_abs (dot h x) ≤ length h * 1073741824
dot_small [] x f g = omega arith
dot_small (h ∷ hs) [] f g = omega arith
dot_small (h ∷ hs) (x ∷ xs) f g =
    let rest = dot_small hs xs f.1 g.1 in
    let both = abs_add (h *ℤ x) (dot hs xs) in
    let here = product_small h x g.0 in
    let low : unsigned_abs h ≤ 32768 = abs_16 h f.0 in
    omega arith

-- the sixteens of a stretch from a place on
module _ (h : List ℤ) (lens : List ℕ) (done : ℕ) (vectors : AreVectors h) (are : AreStretches h lens)
    (whole : done % 16 ≡ 0) (left : done < length h) (n : ℕ) (is : n ≡ get_or lens (done / 16) 0) where
  place : 16 * (done / 16) ≡ done
  place = omega arith

  reaches : IsReach n (drop done h)
  reaches =
      subst (λ k. IsReach n (drop k h)) place (subst (λ m. IsReach m (drop (16 * (done / 16)) h)) (sym is)
      (are.each (done / 16) (omega (arith, are.many, vectors.whole))))

  pub within_taps : done + 16 * n ≤ length h
  within_taps = omega (arith, reaches.within, length-drop done h)

  abbrev piece : List ℤ → List ℤ
  piece xs = take (done + 16 * n - done) (drop done xs)

  sixteens : done + 16 * n - done ≡ 16 * n
  sixteens = omega arith

  pub piece_long : (xs : List ℤ) → length xs ≡ length h → length (piece xs) ≡ 16 * n
  piece_long xs e =
      length-take-le (done + 16 * n - done) (drop done xs) (omega (arith, within_taps, length-drop done xs)) ∙ sixteens

  pub piece_stretch : IsStretch (length (piece h) / 16) (piece h)
  piece_stretch =
      let long : length (piece h) / 16 ≡ n = (let l = piece_long h refl in omega arith) in
      let front : weight_of n (take (done + 16 * n - done) (drop done h)) ≡ weight_of n (drop done h) =
      weight_of_front n (done + 16 * n - done) (drop done h) (omega arith) in
      subst (λ m. IsStretch m (piece h)) (sym long) (omega (arith, front, reaches.stretch))

  pub piece_short : (xs : List ℤ) → Each1 (FitsSigned w16) xs → Each1 (FitsSigned w16) (piece xs)
  piece_short xs f = Each1-chunk (FitsSigned w16) done (done + 16 * n - done) xs f

  pub piece_small : (xs : List ℤ) → AreSeen h xs → unsigned_abs (dot (piece h) (piece xs)) ≤ 2 ^ 50
  piece_small xs seen =
      let small = dot_small (piece h) (piece xs) (piece_short h vectors.short) (piece_short xs seen.short) in
      let long = piece_long h refl in
      let fit = within_taps in
      omega (arith, vectors.few)

  pub front_small : (xs : List ℤ) → AreSeen h xs → unsigned_abs (dot (take done h) (take done xs)) ≤ 2 ^ 50
  front_small xs seen =
      let small = dot_small (take done h) (take done xs) (Each1-chunk (FitsSigned w16) 0 done h vectors.short)
      (Each1-chunk (FitsSigned w16) 0 done xs seen.short) in
      let long : length (take done h) ≡ done = length-take-le done h (omega arith) in
      omega (arith, vectors.few)

  pub piece_more : (xs : List ℤ) {r s t : ℤ} → r ≡ s +ℤ t → s ≡ dot (take done h) (take done xs) →
      t ≡ dot (piece h) (piece xs) → r ≡ dot (take (done + 16 * n) h) (take (done + 16 * n) xs)
  piece_more xs {r} {s} {t} e es et =
      e ∙ (ap (λ z. z +ℤ t) es ∙ (ap (λ z. dot (take done h) (take done xs) +ℤ z) et
      ∙ (ap (λ m. dot (take done h) (take done xs) +ℤ dot (take m (drop done h)) (take m (drop done xs))) sixteens
      ∙ sym (dot_more done (16 * n) h xs))))

  pub piece_added : (xs : List ℤ) {s t : ℤ} → AreSeen h xs → s ≡ dot (take done h) (take done xs) →
      t ≡ dot (piece h) (piece xs) → FitsSigned w64 (s +ℤ t)
  piece_added xs {s} {t} seen es et =
      let small = subst (λ z. unsigned_abs z ≤ 2 ^ 50) (sym es) (front_small xs seen) in
      let more = subst (λ z. unsigned_abs z ≤ 2 ^ 50) (sym et) (piece_small xs seen) in
      let both = abs_add s t in
      fits_signed_from_abs w64 (s +ℤ t) (omega arith)

-- after the last stretch
pub all_taken : (h x : List ℤ) (done : ℕ) → length h ≤ done → AreSeen h x → dot (take done h) (take done x) ≡ dot h x
all_taken h x done over seen =
    let taps : take done h ≡ h = take_all done h over in
    let samples : take done x ≡ x = take_all done x (omega (arith, seen.many)) in
    ap (λ z. dot z (take done x)) taps ∙ ap (dot h) samples
