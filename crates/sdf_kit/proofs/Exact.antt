-- Where a sum of products is within 32 bits.
use Rattle.std.proofs.Common.{refl, sym, ap, ◌∙◌, zero, negsuc, ◌≡◌, ◌≤◌, ℕ, suc, pos, length, ◌+◌, ◌*◌, ℤ, ◌+ℤ◌, ◌*ℤ◌}
use Rattle.std.proofs.Common.{List, [], ◌∷◌, unsigned_abs, w32, arith}
use Rattle.std.proofs.Math.IntN.{suc_ℤ, pred_ℤ, suc_ℤ-*ℤ, pred_ℤ-*ℤ, zero-*ℤ}
use Rattle.std.proofs.lemmas.Int.{ints, int_wrap_fits, fits_signed_from_abs, unsigned_abs-mul}
use Rattle.std.proofs.Math.Nat.{mul-le-mul_left, add-mul}
use Rattle.sdf_kit.specs.Dots.{wrap, dot, total_abs, AreWithin, joined}
use Rattle.sdf_kit.proofs.Settling.{abs_add}

pub bound : (h x : List ℤ) (m : ℕ) → AreWithin m x → unsigned_abs (dot h x) ≤ total_abs h * m
bound [] x m w = omega arith
bound (h ∷ hs) [] m w = omega arith
bound (h ∷ hs) (x ∷ xs) m w =
    let here : unsigned_abs (h *ℤ x) ≡ unsigned_abs h * unsigned_abs x = unsigned_abs-mul h x in
    let x_low : unsigned_abs x ≤ m = w 0 (omega arith) in
    let low : unsigned_abs h * unsigned_abs x ≤ unsigned_abs h * m = mul-le-mul_left (unsigned_abs h) x_low in
    let rest : unsigned_abs (dot hs xs) ≤ total_abs hs * m = bound hs xs m (λ k l. w (suc k) (omega arith)) in
    let both = abs_add (h *ℤ x) (dot hs xs) in
    let parts : (unsigned_abs h + total_abs hs) * m ≡ unsigned_abs h * m + total_abs hs * m =
    add-mul (unsigned_abs h) (total_abs hs) m in
    omega arith

pub exact : (h x : List ℤ) (peak : ℕ) → AreWithin peak x → total_abs h * peak ≤ 2147483647 → wrap (dot h x) ≡ dot h x
exact h x peak w room =
    let b : unsigned_abs (dot h x) ≤ total_abs h * peak = bound h x peak w in
    int_wrap_fits w32 (dot h x) (fits_signed_from_abs w32 (dot h x) (omega arith))

-- a factor of upper bits and lowest ones
module _ (a b : ℤ) where
  abbrev whole : ℤ
  whole = (pos 256 *ℤ a) +ℤ b

  one_more : (h : ℤ) → h *ℤ whole ≡ (pos 256 *ℤ (h *ℤ a)) +ℤ (h *ℤ b) →
      suc_ℤ h *ℤ whole ≡ (pos 256 *ℤ (suc_ℤ h *ℤ a)) +ℤ (suc_ℤ h *ℤ b)
  one_more h ih =
      let x = suc_ℤ-*ℤ h whole in
      let y = suc_ℤ-*ℤ h a in
      let z = suc_ℤ-*ℤ h b in
      rw (x, y, z) (omega (arith, ints, ih))

  one_fewer : (h : ℤ) → h *ℤ whole ≡ (pos 256 *ℤ (h *ℤ a)) +ℤ (h *ℤ b) →
      pred_ℤ h *ℤ whole ≡ (pos 256 *ℤ (pred_ℤ h *ℤ a)) +ℤ (pred_ℤ h *ℤ b)
  one_fewer h ih =
      let x = pred_ℤ-*ℤ h whole in
      let y = pred_ℤ-*ℤ h a in
      let z = pred_ℤ-*ℤ h b in
      rw (x, y, z) (omega (arith, ints, ih))

  none : pos 0 *ℤ whole ≡ (pos 256 *ℤ (pos 0 *ℤ a)) +ℤ (pos 0 *ℤ b)
  none = let x = zero-*ℤ whole in let y = zero-*ℤ a in let z = zero-*ℤ b in rw (x, y, z) refl

  spread : (h : ℤ) → h *ℤ whole ≡ (pos 256 *ℤ (h *ℤ a)) +ℤ (h *ℤ b)
  spread (pos zero) = none
  spread (pos (suc n)) = one_more (pos n) (spread (pos n))
  spread (negsuc zero) = one_fewer (pos 0) none
  spread (negsuc (suc n)) = one_fewer (negsuc n) (spread (negsuc n))

-- upper bits and lowest ones apart
pub split : (h a b : List ℤ) → length a ≡ length b → dot h (joined a b) ≡ (pos 256 *ℤ dot h a) +ℤ dot h b
split [] a b e = omega (arith, ints)
split (h ∷ hs) [] [] e = omega (arith, ints)
split (h ∷ hs) [] (b ∷ bs) e = absurd (omega (arith, e))
split (h ∷ hs) (a ∷ more) [] e = absurd (omega (arith, e))
split (h ∷ hs) (a ∷ more) (b ∷ bs) e =
    let rest : dot hs (joined more bs) ≡ (pos 256 *ℤ dot hs more) +ℤ dot hs bs = split hs more bs (omega (arith, e)) in
    let spread : h *ℤ ((pos 256 *ℤ a) +ℤ b) ≡ (pos 256 *ℤ (h *ℤ a)) +ℤ (h *ℤ b) = spread a b h in
    omega (arith, ints)

pub split_exact : (h a b : List ℤ) (peak : ℕ) → length a ≡ length b → AreWithin peak a → AreWithin peak b →
    total_abs h * peak ≤ 2147483647 →
    (pos 256 *ℤ wrap (dot h a)) +ℤ wrap (dot h b) ≡ dot h (joined a b)
split_exact h a b peak e wa wb room =
    let ea = exact h a peak wa room in
    let eb = exact h b peak wb room in
    ap (λ z. (pos 256 *ℤ z) +ℤ wrap (dot h b)) ea ∙ (ap (λ z. (pos 256 *ℤ dot h a) +ℤ z) eb ∙ sym (split h a b e))
