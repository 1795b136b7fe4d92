-- What vectors' operations do to their lanes.
use Rattle.std.proofs.Common.{◌≡◌, ℕ, zero, suc, ◌+◌, ◌*◌, ◌%◌, ◌≤◌, ◌<◌, ℤ, pos, negsuc, ◌+ℤ◌, ◌*ℤ◌, List, [], ◌∷◌}
use Rattle.std.proofs.Common.{◌++◌, map}
use Rattle.std.proofs.Common.{take, drop, length, slice_index_or, of_z, to_z, w32, FitsSigned, unsigned_abs, refl, sym}
use Rattle.std.proofs.Common.{ap, ◌∙◌}
use Rattle.std.proofs.Common.{arith}
use Rattle.std.specs.Int.{w16}
use Rattle.std.proofs.lemmas.Int.{to_z-of_z, of_z-to_z, wrapping_add_is, wrapping_mul_is, int_wrap_fits}
use Rattle.std.proofs.lemmas.Int.{fits_signed_from_abs}
use Rattle.std.specs.Simd.Lanes.{zip2, Each1}
use Rattle.std.proofs.lemmas.Int.{fits_signed_mul}
use Rattle.std.proofs.lemmas.Simd.{length-zip2, Each1-chunk}
use Rattle.std.proofs.lemmas.List.{length-append, length-map, length-take-le, length-drop, map-append}
use Rattle.std.proofs.lemmas.List.{get_or_append_left, get_or-take, get_or-drop}
use borrow.Rule.Simd.Lanes.{act1, act2}
use borrow.Table.Row.{s_int}
use mir.Syntax.{cast, signed, wrap_mul, wrap_add}
use Rattle.sdf_kit.specs.Dots.{wrap, neighbours, AreLanes}

abbrev added : List ℕ → ℕ → ℕ → ℤ
added bits i j = to_z w32 ((slice_index_or bits i 0 + slice_index_or bits j 0) % 4294967296)

pub sum_is : (a b : ℤ) → FitsSigned w32 a → FitsSigned w32 b →
    to_z w32 ((of_z w32 a + of_z w32 b) % 4294967296) ≡ wrap (a +ℤ b)
sum_is a b f g = wrapping_add_is w32 a b f g

-- the sums of so many pairs of neighbours, from a lane on
abbrev pub sums_from : List ℕ → ℕ → ℕ → List ℤ
sums_from bits k zero = []
sums_from bits k (suc n) = added bits k (k + 1) ∷ sums_from bits (k + 2) n

sums_are : (n k : ℕ) (bits : List ℕ) (p : List ℤ) → length p ≡ n + n → Each1 (FitsSigned w32) p →
    ((i : ℕ) → i < length p → slice_index_or bits (k + i) 0 ≡ of_z w32 (slice_index_or p i (pos 0))) →
    sums_from bits k n ≡ neighbours p
sums_are zero k bits [] e f at = refl
sums_are zero k bits (x ∷ p) e f at = absurd (omega (arith, e))
sums_are (suc n) k bits [] e f at = absurd (omega (arith, e))
sums_are (suc n) k bits (x ∷ []) e f at = absurd (omega (arith, e))
sums_are (suc n) k bits (x ∷ y ∷ p) e f at =
    let here : k + 0 ≡ k = omega arith in
    let first : slice_index_or bits k 0 ≡ of_z w32 x = rw here at (at 0 (omega arith)) in
    let second : slice_index_or bits (k + 1) 0 ≡ of_z w32 y = at 1 (omega arith) in
    let rest : sums_from bits (k + 2) n ≡ neighbours p = sums_are n (k + 2) bits p (omega (arith, e)) f.1.1
    (λ i l. let on : k + 2 + i ≡ k + suc (suc i) = omega arith in rw on (at (suc (suc i)) (omega arith))) in
    rw (first, second, sum_is x y f.0 f.1.0, rest) refl

-- the bits of a list's numbers
bits_at : (p : List ℤ) (i : ℕ) → slice_index_or (map (of_z w32) p) i 0 ≡ of_z w32 (slice_index_or p i (pos 0))
bits_at [] i = refl
bits_at (x ∷ p) zero = refl
bits_at (x ∷ p) (suc i) = bits_at p i

both_fit : (a b : List ℤ) → Each1 (FitsSigned w32) a → Each1 (FitsSigned w32) b → Each1 (FitsSigned w32) (a ++ b)
both_fit [] b f g = g
both_fit (x ∷ a) b f g = (f.0, both_fit a b f.1 g)

pub pairs_are : (a b : List ℤ) → AreLanes w32 4 a → AreLanes w32 4 b →
    sums_from (map (of_z w32) a ++ map (of_z w32) b) 0 4 ≡ neighbours (a ++ b)
pairs_are a b f g =
    let long : length (a ++ b) ≡ 4 + 4 = length-append a b
    ∙ (ap (λ n. n + length b) f.many ∙ ap (λ n. 4 + n) g.many) in
    sums_are 4 0 (map (of_z w32) a ++ map (of_z w32) b) (a ++ b) long (both_fit a b f.fits g.fits)
    (λ i l. let all : 0 + i ≡ i = omega arith in
    rw all (ap (λ bits. slice_index_or bits i 0) (sym (map-append (of_z w32) a b)) ∙ bits_at (a ++ b) i))

-- the sums of so many lanes with those four further on, from a lane on
abbrev pub folds_from : List ℕ → ℕ → ℕ → List ℤ
folds_from bits k zero = []
folds_from bits k (suc n) = added bits k (4 + k) ∷ folds_from bits (k + 1) n

folds_are : (n k : ℕ) (bits : List ℕ) (p q : List ℤ) → length p ≡ n → length q ≡ n →
    Each1 (FitsSigned w32) p → Each1 (FitsSigned w32) q →
    ((i : ℕ) → i < n → slice_index_or bits (k + i) 0 ≡ of_z w32 (slice_index_or p i (pos 0))) →
    ((i : ℕ) → i < n → slice_index_or bits (4 + k + i) 0 ≡ of_z w32 (slice_index_or q i (pos 0))) →
    folds_from bits k n ≡ zip2 (λ x y. wrap (x +ℤ y)) p q
folds_are zero k bits [] q d e f g low high = refl
folds_are zero k bits (x ∷ p) q d e f g low high = absurd (omega (arith, d))
folds_are (suc n) k bits [] q d e f g low high = absurd (omega (arith, d))
folds_are (suc n) k bits (x ∷ p) [] d e f g low high = absurd (omega (arith, e))
folds_are (suc n) k bits (x ∷ p) (y ∷ q) d e f g low high =
    let here : k + 0 ≡ k = omega arith in
    let there : 4 + k + 0 ≡ 4 + k = omega arith in
    let first : slice_index_or bits k 0 ≡ of_z w32 x = rw here at (low 0 (omega arith)) in
    let second : slice_index_or bits (4 + k) 0 ≡ of_z w32 y = rw there at (high 0 (omega arith)) in
    let rest : folds_from bits (k + 1) n ≡ zip2 (λ x y. wrap (x +ℤ y)) p q =
    folds_are n (k + 1) bits p q (omega (arith, d)) (omega (arith, e)) f.1 g.1
    (λ i l. let on : k + 1 + i ≡ k + suc i = omega arith in rw on (low (suc i) (omega arith)))
    (λ i l. let on : 4 + (k + 1) + i ≡ 4 + k + suc i = omega arith in rw on (high (suc i) (omega arith))) in
    rw (first, second, sum_is x y f.0 g.0, rest) refl

upper_fit : (n : ℕ) (a : List ℤ) → Each1 (FitsSigned w32) a → Each1 (FitsSigned w32) (drop n a)
upper_fit zero a f = f
upper_fit (suc n) [] f = tt
upper_fit (suc n) (x ∷ a) f = upper_fit n a f.1

pub folded_is : (a : List ℤ) → AreLanes w32 8 a →
    folds_from (map (of_z w32) a ++ map (of_z w32) a) 0 4 ≡ zip2 (λ x y. wrap (x +ℤ y)) (take 4 a) (drop 4 a)
folded_is a l =
    let reads = λ (i : ℕ) (within : i < 8).
    get_or_append_left (map (of_z w32) a) (map (of_z w32) a) 0 i (rw (length-map a (of_z w32), l.many) within)
    ∙ bits_at a i in
    folds_are 4 0 (map (of_z w32) a ++ map (of_z w32) a) (take 4 a) (drop 4 a)
    (length-take-le 4 a (rw l.many (omega arith))) (length-drop 4 a ∙ rw l.many refl)
    (Each1-chunk (FitsSigned w32) 0 4 a l.fits) (upper_fit 4 a l.fits)
    (λ i within. let all : 0 + i ≡ i = omega arith in
    rw all (reads i (omega (arith, within)) ∙ ap (of_z w32) (sym (get_or-take 4 a i (pos 0) within))))
    (λ i within. let all : 4 + 0 + i ≡ 4 + i = omega arith in
    rw all (reads (4 + i) (omega (arith, within)) ∙ ap (of_z w32) (sym (get_or-drop 4 a i (pos 0)))))

-- a lane of 16 bits made one of 32
abbrev wider : ℕ → ℕ
wider = act1 (cast signed signed w32) (s_int w16) (s_int w32)

-- the product of two lanes
abbrev times_lane : ℕ → ℕ → ℕ
times_lane = act2 wrap_mul (s_int w32) (s_int w32) (s_int w32)

pub abs_16 : (a : ℤ) → FitsSigned w16 a → unsigned_abs a ≤ 32768
abs_16 (pos n) f = omega (arith, f.sfits)
abs_16 (negsuc n) f = omega (arith, f.sfits)

to_32 : (a : ℤ) → FitsSigned w16 a → FitsSigned w32 a
to_32 a f = fits_signed_from_abs w32 a (let h = abs_16 a f in omega arith)

product_fits : (a b : ℤ) → FitsSigned w16 a → FitsSigned w16 b → FitsSigned w32 (a *ℤ b)
product_fits a b f g = fits_signed_mul w32 a b 32768 32768 (abs_16 a f) (abs_16 b g) (omega arith)

lane_is : (a b : ℤ) → FitsSigned w16 a → FitsSigned w16 b →
    times_lane (wider (of_z w16 a)) (wider (of_z w16 b)) ≡ of_z w32 (a *ℤ b)
lane_is a b f g =
    let left : to_z w16 (of_z w16 a) ≡ a = to_z-of_z w16 a f in
    let right : to_z w16 (of_z w16 b) ≡ b = to_z-of_z w16 b g in
    let value : to_z w32 ((of_z w32 a * of_z w32 b) % 4294967296) ≡ a *ℤ b =
    wrapping_mul_is w32 a b (to_32 a f) (to_32 b g) ∙ int_wrap_fits w32 (a *ℤ b) (product_fits a b f g) in
    let low : (of_z w32 a * of_z w32 b) % 4294967296 < 4294967296 = omega arith in
    let back : of_z w32 (to_z w32 ((of_z w32 a * of_z w32 b) % 4294967296)) ≡ (of_z w32 a * of_z w32 b) % 4294967296 =
    of_z-to_z w32 ((of_z w32 a * of_z w32 b) % 4294967296) low in
    rw (left, right) (sym back ∙ ap (of_z w32) value)

lanes_are : (x h : List ℤ) → Each1 (FitsSigned w16) x → Each1 (FitsSigned w16) h →
    zip2 times_lane (map wider (map (of_z w16) x)) (map wider (map (of_z w16) h)) ≡
    map (of_z w32) (zip2 (λ a b. a *ℤ b) x h)
lanes_are [] h f g = refl
lanes_are (a ∷ x) [] f g = refl
lanes_are (a ∷ x) (b ∷ h) f g =
    let first = lane_is a b f.0 g.0 in
    let rest = lanes_are x h f.1 g.1 in
    rw (first, rest) refl

products_fit : (x h : List ℤ) → Each1 (FitsSigned w16) x → Each1 (FitsSigned w16) h →
    Each1 (FitsSigned w32) (zip2 (λ a b. a *ℤ b) x h)
products_fit [] h f g = tt
products_fit (a ∷ x) [] f g = tt
products_fit (a ∷ x) (b ∷ h) f g = (product_fits a b f.0 g.0, products_fit x h f.1 g.1)

-- the lanes of a vector that is both operands
pub twice_are : (n : ℕ) (p : List ℤ) → AreLanes w32 (n + n) p →
    sums_from (map (of_z w32) p ++ map (of_z w32) p) 0 n ≡ neighbours p
twice_are n p l =
    sums_are n 0 (map (of_z w32) p ++ map (of_z w32) p) p l.many l.fits
    (λ i within. let all : 0 + i ≡ i = omega arith in
    rw all (get_or_append_left (map (of_z w32) p) (map (of_z w32) p) 0 i (rw (length-map p (of_z w32)) within)
    ∙ bits_at p i))

pub products_are : (x h : List ℤ) → AreLanes w16 16 x → AreLanes w16 16 h →
    sums_from (zip2 times_lane (map wider (map (of_z w16) x)) (map wider (map (of_z w16) h))
    ++ zip2 times_lane (map wider (map (of_z w16) x)) (map wider (map (of_z w16) h))) 0 8 ≡
    neighbours (zip2 (λ a b. a *ℤ b) x h)
products_are x h f g =
    let long : length (zip2 (λ a b. a *ℤ b) x h) ≡ length x = length-zip2 (λ a b. a *ℤ b) x h (f.many ∙ sym g.many) in
    ap (λ p. sums_from (p ++ p) 0 8) (lanes_are x h f.fits g.fits) ∙ twice_are 8 (zip2 (λ a b. a *ℤ b) x h)
    (record { many = long ∙ f.many; fits = products_fit x h f.fits g.fits })

abbrev pub plus_lane : ℕ → ℕ → ℕ
plus_lane = act2 wrap_add (s_int w32) (s_int w32) (s_int w32)

pub plus_is : (a b : List ℤ) → Each1 (FitsSigned w32) a → Each1 (FitsSigned w32) b →
    map (to_z w32) (zip2 plus_lane (map (of_z w32) a) (map (of_z w32) b)) ≡ zip2 (λ x y. wrap (x +ℤ y)) a b
plus_is [] b f g = refl
plus_is (x ∷ a) [] f g = refl
plus_is (x ∷ a) (y ∷ b) f g =
    let first = sum_is x y f.0 g.0 in
    let rest = plus_is a b f.1 g.1 in
    rw (first, rest) refl
