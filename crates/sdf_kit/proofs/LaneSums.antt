-- Sums of lanes that do not wrap.
use Rattle.std.proofs.Common.{◌≡◌, ◌≤◌, ℕ, zero, suc, ◌+◌, ◌*◌, ◌/◌, ℤ, pos, negsuc, ◌+ℤ◌, ◌*ℤ◌, ◌-ℤ◌, List, [], ◌∷◌}
use Rattle.std.proofs.Common.{map, length}
use Rattle.std.proofs.Common.{◌%◌, take, drop, of_z, to_z, w32, w64, FitsSigned, unsigned_abs, refl, sym, ap, subst}
use Rattle.std.proofs.Common.{◌∙◌, arith}
use Rattle.std.specs.Int.{w16, int_shr}
use Rattle.std.proofs.lemmas.Int.{ints, int_wrap_fits, to_z-of_z, SFits-int_wrap, fits_signed_from_abs}
use Rattle.std.proofs.lemmas.Int.{unsigned_abs-mul}
use Rattle.std.proofs.lemmas.List.{take_all}
use Rattle.std.proofs.Math.Nat.{le-max_left, le-max_right, mul-le-mul_left}
use Rattle.std.specs.Simd.Lanes.{zip2, Each1}
use Rattle.sdf_kit.specs.Dots.{wrap, neighbours, AreLanes, total, dot}
use Rattle.sdf_kit.specs.Stretches.{weight, weight_of, IsStretch, AreLanesWithin, AreSums}
use Rattle.sdf_kit.proofs.Lanes.{abs_16}
use Rattle.sdf_kit.proofs.Settling.{abs_add}
use Rattle.sdf_kit.proofs.LaneTotals.{IsDot, same_lanes, made, lanes_plus, dot_more, nothing, next, whole_dot}

pub product_small : (a b : ℤ) → FitsSigned w16 b → unsigned_abs (a *ℤ b) ≤ unsigned_abs a * 32768
product_small a b f =
    let e : unsigned_abs (a *ℤ b) ≡ unsigned_abs a * unsigned_abs b = unsigned_abs-mul a b in
    let low : unsigned_abs a * unsigned_abs b ≤ unsigned_abs a * 32768 =
    mul-le-mul_left (unsigned_abs a) (abs_16 b f) in
    omega arith

-- what `products` gives, where the taps are light
pub products_exact : (n : ℕ) (h x : List ℤ) (m : ℕ) → length h ≡ n + n → length x ≡ n + n → Each1 (FitsSigned w16) x →
    weight h ≤ m → m ≤ 65535 →
    AreLanesWithin (m * 32768) (neighbours (zip2 (λ a b. a *ℤ b) h x))
    × (total (neighbours (zip2 (λ a b. a *ℤ b) h x)) ≡ dot h x)
products_exact zero [] x m e d f light few = (tt, refl)
products_exact zero (a ∷ h) x m e d f light few = absurd (omega (arith, e))
products_exact (suc n) [] x m e d f light few = absurd (omega (arith, e))
products_exact (suc n) (a ∷ []) x m e d f light few = absurd (omega (arith, e))
products_exact (suc n) (a ∷ b ∷ h) [] m e d f light few = absurd (omega (arith, d))
products_exact (suc n) (a ∷ b ∷ h) (y ∷ []) m e d f light few = absurd (omega (arith, d))
products_exact (suc n) (a ∷ b ∷ h) (y ∷ z ∷ x) m e d f light few =
    let here : unsigned_abs a + unsigned_abs b ≤ m =
    (let l = le-max_left (unsigned_abs a + unsigned_abs b) (weight h) in omega arith) in
    let there : weight h ≤ m = (let l = le-max_right (unsigned_abs a + unsigned_abs b) (weight h) in omega arith) in
    let first = product_small a y f.0 in
    let second = product_small b z f.1.0 in
    let both = abs_add (a *ℤ y) (b *ℤ z) in
    let small : unsigned_abs ((a *ℤ y) +ℤ (b *ℤ z)) ≤ m * 32768 = omega arith in
    let same : wrap ((a *ℤ y) +ℤ (b *ℤ z)) ≡ (a *ℤ y) +ℤ (b *ℤ z) =
    int_wrap_fits w32 ((a *ℤ y) +ℤ (b *ℤ z)) (fits_signed_from_abs w32 ((a *ℤ y) +ℤ (b *ℤ z)) (omega arith)) in
    let rest = products_exact n h x m (omega (arith, e)) (omega (arith, d)) f.1.1 there few in
    let parts : ((a *ℤ y) +ℤ (b *ℤ z)) +ℤ dot h x ≡ (a *ℤ y) +ℤ ((b *ℤ z) +ℤ dot h x) = omega (arith, ints) in (
      rw same (small, rest.0),
      ap (λ s. s +ℤ total (neighbours (zip2 (λ a b. a *ℤ b) h x))) same
          ∙ (ap (λ s. ((a *ℤ y) +ℤ (b *ℤ z)) +ℤ s) rest.1 ∙ parts),
    )

-- what `plus` gives, where no lane is far from 0
pub plus_exact : (xs ys : List ℤ) (m p : ℕ) → length xs ≡ length ys → AreLanesWithin m xs → AreLanesWithin p ys →
    m + p ≤ 2147483647 →
    AreLanesWithin (m + p) (zip2 (λ x y. wrap (x +ℤ y)) xs ys)
    × (total (zip2 (λ x y. wrap (x +ℤ y)) xs ys) ≡ total xs +ℤ total ys)
plus_exact [] [] m p e f g few = (tt, refl)
plus_exact [] (y ∷ ys) m p e f g few = absurd (omega (arith, e))
plus_exact (x ∷ xs) [] m p e f g few = absurd (omega (arith, e))
plus_exact (x ∷ xs) (y ∷ ys) m p e f g few =
    let both = abs_add x y in
    let low : unsigned_abs x ≤ m = f.0 in
    let lower : unsigned_abs y ≤ p = g.0 in
    let small : unsigned_abs (x +ℤ y) ≤ m + p = omega arith in
    let same : wrap (x +ℤ y) ≡ x +ℤ y = int_wrap_fits w32 (x +ℤ y) (fits_signed_from_abs w32 (x +ℤ y) (omega arith)) in
    let rest = plus_exact xs ys m p (omega (arith, e)) f.1 g.1 few in
    let parts : (x +ℤ y) +ℤ (total xs +ℤ total ys) ≡ (x +ℤ total xs) +ℤ (y +ℤ total ys) = omega (arith, ints) in (
      rw same (small, rest.0),
      ap (λ s. s +ℤ total (zip2 (λ x y. wrap (x +ℤ y)) xs ys)) same
          ∙ (ap (λ s. (x +ℤ y) +ℤ s) rest.1 ∙ parts),
    )

-- what `more` gives
pub more_exact : (sums h x p r : List ℤ) (m : ℕ) → AreLanes w32 8 sums → AreLanes w16 16 h → AreLanes w16 16 x →
    p ≡ neighbours (zip2 (λ a b. a *ℤ b) (map (to_z w16) (map (of_z w16) h)) (map (to_z w16) (map (of_z w16) x))) →
    r ≡ zip2 (λ x y. wrap (x +ℤ y)) (map (to_z w32) (map (of_z w32) sums)) (map (to_z w32) (map (of_z w32) p)) →
    AreLanesWithin m sums → m + weight h * 32768 ≤ 2147483647 →
    AreLanesWithin (m + weight h * 32768) (map (to_z w32) (map (of_z w32) r))
    × (total (map (to_z w32) (map (of_z w32) r)) ≡ total sums +ℤ dot h x)
more_exact sums h x p r m ls lh lx ep er within few =
    let is : p ≡ neighbours (zip2 (λ a b. a *ℤ b) h x) =
    rw (same_lanes w16 h lh.fits, same_lanes w16 x lx.fits) at ep in
    let lp = (made h x p lh lx ep).0 in
    let sum : r ≡ zip2 (λ x y. wrap (x +ℤ y)) sums p =
    rw (same_lanes w32 sums ls.fits, same_lanes w32 p lp.fits) at er in
    let lr : AreLanes w32 8 (zip2 (λ x y. wrap (x +ℤ y)) sums p) = lanes_plus 8 sums p ls.many lp.many in
    let sent : map (to_z w32) (map (of_z w32) r) ≡ zip2 (λ x y. wrap (x +ℤ y)) sums p =
    ap (λ z. map (to_z w32) (map (of_z w32) z)) sum ∙ same_lanes w32 (zip2 (λ x y. wrap (x +ℤ y)) sums p) lr.fits in
    let made_exact = products_exact 8 h x (weight h) lh.many lx.many lx.fits (omega arith) (omega arith) in
    let within_p : AreLanesWithin (weight h * 32768) p =
    subst (λ z. AreLanesWithin (weight h * 32768) z) (sym is) made_exact.0 in
    let both = plus_exact sums p m (weight h * 32768) (ls.many ∙ sym lp.many) within within_p few in (
      subst (λ z. AreLanesWithin (m + weight h * 32768) z) (sym sent) both.0,
      ap total sent ∙ (both.1 ∙ ap (λ z. total sums +ℤ z) (ap total is ∙ made_exact.1)),
    )

-- the halves of lanes, each totalled within 32 bits
upper_small : (x : ℤ) → FitsSigned w32 x → unsigned_abs (int_shr x 16) ≤ 32768
upper_small (pos n) f = omega (arith, f.sfits)
upper_small (negsuc n) f = omega (arith, f.sfits)

lower_small : (x : ℤ) → FitsSigned w32 x → unsigned_abs (x -ℤ (pos 65536 *ℤ int_shr x 16)) ≤ 65535
lower_small (pos n) f = omega (arith, ints, f.sfits)
lower_small (negsuc n) f = omega (arith, ints, f.sfits)

abbrev low_half : ℤ → ℤ
low_half x = x -ℤ (pos 65536 *ℤ int_shr x 16)

halves : (n : ℕ) (a : List ℤ) → length a ≡ n → Each1 (FitsSigned w32) a →
    (unsigned_abs (total (map (λ x. int_shr x 16) a)) ≤ n * 32768)
    × (unsigned_abs (total (map low_half a)) ≤ n * 65535)
    × ((pos 65536 *ℤ total (map (λ x. int_shr x 16) a)) +ℤ total (map low_half a) ≡ total a)
halves n [] e f = (omega arith, omega arith, refl)
halves zero (x ∷ a) e f = absurd (omega (arith, e))
halves (suc n) (x ∷ a) e f =
    let rest = halves n a (omega (arith, e)) f.1 in
    let up = upper_small x f.0 in
    let low = lower_small x f.0 in
    let ups = abs_add (int_shr x 16) (total (map (λ x. int_shr x 16) a)) in
    let lows = abs_add (low_half x) (total (map low_half a)) in
    (omega (arith, rest.0), omega (arith, rest.1), omega (arith, ints, rest.2))

pub halves_total : (a : List ℤ) → AreLanes w32 8 a →
    (pos 65536 *ℤ wrap (total (map (λ x. int_shr x 16) a))) +ℤ wrap (total (map low_half a)) ≡ total a
halves_total a l =
    let both = halves 8 a l.many l.fits in
    let up : ℤ = total (map (λ x. int_shr x 16) a) in
    let low : ℤ = total (map low_half a) in
    let ups : wrap up ≡ up = int_wrap_fits w32 up (fits_signed_from_abs w32 up (omega (arith, both.0))) in
    let lows : wrap low ≡ low = int_wrap_fits w32 low (fits_signed_from_abs w32 low (omega (arith, both.1))) in
    ap (λ z. (pos 65536 *ℤ z) +ℤ wrap low) ups ∙ (ap (λ z. (pos 65536 *ℤ up) +ℤ z) lows ∙ both.2)

-- a total by those of its halves
pub wide_total : {a u l : List ℤ} {high low r : ℤ} → AreLanes w32 8 a →
    u ≡ map (λ x. int_shr x 16) (map (to_z w32) (map (of_z w32) a)) → AreLanes w32 8 u →
    l ≡ map low_half (map (to_z w32) (map (of_z w32) a)) → AreLanes w32 8 l →
    high ≡ to_z w32 (of_z w32 (wrap (total (map (to_z w32) (map (of_z w32) u))))) →
    low ≡ to_z w32 (of_z w32 (wrap (total (map (to_z w32) (map (of_z w32) l))))) →
    r ≡ (pos 65536 *ℤ to_z w32 (of_z w32 high)) +ℤ to_z w32 (of_z w32 low) → FitsSigned w64 r →
    to_z w64 (of_z w64 r) ≡ total a
wide_total {a} {u} {l} {high} {low} {r} la eu lu el ll eh eo is fits =
    let u_is : map (to_z w32) (map (of_z w32) u) ≡ map (λ x. int_shr x 16) a =
    same_lanes w32 u lu.fits ∙ (eu ∙ ap (map (λ x. int_shr x 16)) (same_lanes w32 a la.fits)) in
    let l_is : map (to_z w32) (map (of_z w32) l) ≡ map low_half a =
    same_lanes w32 l ll.fits ∙ (el ∙ ap (map low_half) (same_lanes w32 a la.fits)) in
    let up : high ≡ wrap (total (map (λ x. int_shr x 16) a)) =
    eh ∙ (sent (total (map (to_z w32) (map (of_z w32) u))) ∙ ap (λ z. wrap (total z)) u_is) in
    let lower : low ≡ wrap (total (map low_half a)) =
    eo ∙ (sent (total (map (to_z w32) (map (of_z w32) l))) ∙ ap (λ z. wrap (total z)) l_is) in
    let high_is : to_z w32 (of_z w32 high) ≡ wrap (total (map (λ x. int_shr x 16) a)) =
    ap (λ z. to_z w32 (of_z w32 z)) up ∙ sent (total (map (λ x. int_shr x 16) a)) in
    let low_is : to_z w32 (of_z w32 low) ≡ wrap (total (map low_half a)) =
    ap (λ z. to_z w32 (of_z w32 z)) lower ∙ sent (total (map low_half a)) in
    to_z-of_z w64 r fits ∙ (is ∙ (ap (λ z. (pos 65536 *ℤ z) +ℤ to_z w32 (of_z w32 low)) high_is
    ∙ (ap (λ z. (pos 65536 *ℤ wrap (total (map (λ x. int_shr x 16) a))) +ℤ z) low_is ∙ halves_total a la)))
  where
    sent : (z : ℤ) → to_z w32 (of_z w32 (wrap z)) ≡ wrap z
    sent z = to_z-of_z w32 (wrap z) (SFits-int_wrap w32 z)

-- sums of the first k sixteens that did not wrap, where those are a stretch
abbrev pub IsExact : List ℤ → List ℤ → ℕ → List ℤ → Type 0
IsExact h x k sums = IsStretch k h →
    AreLanesWithin (weight_of k h * 32768) sums × (total sums ≡ dot (take (16 * k) h) (take (16 * k) x))

pub exact_nothing : (h x : List ℤ) →
    IsExact h x 0 (pos 0 ∷ pos 0 ∷ pos 0 ∷ pos 0 ∷ pos 0 ∷ pos 0 ∷ pos 0 ∷ pos 0 ∷ [])
exact_nothing h x light =
    let l : 0 ≤ 0 = omega arith in
    ((l, (l, (l, (l, (l, (l, (l, (l, tt)))))))), refl)

pub exact_next : (h x sums more : List ℤ) (k : ℕ) → IsExact h x k sums →
    ((m : ℕ) → AreLanesWithin m sums → m + weight (take 16 (drop (16 * k) h)) * 32768 ≤ 2147483647 →
    AreLanesWithin (m + weight (take 16 (drop (16 * k) h)) * 32768) more
    × (total more ≡ total sums +ℤ dot (take 16 (drop (16 * k) h)) (take 16 (drop (16 * k) x)))) →
    IsExact h x (k + 1) more
exact_next h x sums more k is on light =
    let one : suc k ≡ k + 1 = omega arith in
    let heavier : weight_of k h + weight (take 16 (drop (16 * k) h)) ≡ weight_of (k + 1) h =
    ap (λ n. weight_of n h) one in
    let before = is (omega (arith, heavier)) in
    let now = on (weight_of k h * 32768) before.0 (omega (arith, heavier)) in
    let place : 16 * k + 16 ≡ 16 * (k + 1) = omega arith in
    let bound : weight_of k h * 32768 + weight (take 16 (drop (16 * k) h)) * 32768 ≡ weight_of (k + 1) h * 32768 =
    omega (arith, heavier) in (
      subst (λ m. AreLanesWithin m more) bound now.0,
      now.1 ∙ (ap (λ z. z +ℤ dot (take 16 (drop (16 * k) h)) (take 16 (drop (16 * k) x))) before.1
          ∙ (sym (dot_more (16 * k) 16 h x) ∙ ap (λ n. dot (take n h) (take n x)) place)),
    )

-- what a loop over sixteens has come to
pub record AreSoFar (h x : List ℤ) (k : ℕ) (sums : List ℤ) : Type 0 where
  pub some : IsDot h x (16 * k) sums
  pub exact : IsExact h x k sums

pub so_far_nothing : (h x : List ℤ) →
    AreSoFar h x 0 (pos 0 ∷ pos 0 ∷ pos 0 ∷ pos 0 ∷ pos 0 ∷ pos 0 ∷ pos 0 ∷ pos 0 ∷ [])
so_far_nothing h x = record { some = nothing h x; exact = exact_nothing h x }

pub so_far_next : (h x a hs xs r : List ℤ) (k : ℕ) → AreSoFar h x k a → AreLanes w16 16 hs →
    hs ≡ take 16 (drop (16 * k) h) → AreLanes w16 16 xs → xs ≡ take 16 (drop (16 * k) x) → AreLanes w32 8 r →
    wrap (total r) ≡ wrap (total a +ℤ dot (map (to_z w16) (map (of_z w16) hs)) (map (to_z w16) (map (of_z w16) xs))) →
    ((m : ℕ) → AreLanesWithin m a → m + weight (map (to_z w16) (map (of_z w16) hs)) * 32768 ≤ 2147483647 →
    AreLanesWithin (m + weight (map (to_z w16) (map (of_z w16) hs)) * 32768) r
    × (total r ≡ total a +ℤ dot (map (to_z w16) (map (of_z w16) hs)) (map (to_z w16) (map (of_z w16) xs)))) →
    AreSoFar h x (k + 1) (map (to_z w32) (map (of_z w32) r))
so_far_next h x a hs xs r k is lh eh lx ex lr value exact =
    let taps : map (to_z w16) (map (of_z w16) hs) ≡ take 16 (drop (16 * k) h) = same_lanes w16 hs lh.fits ∙ eh in
    let samples : map (to_z w16) (map (of_z w16) xs) ≡ take 16 (drop (16 * k) x) = same_lanes w16 xs lx.fits ∙ ex in
    record {
      some = next h x a hs xs r k is.some lh eh lx ex lr value;
      exact = subst (λ z. IsExact h x (k + 1) z) (sym (same_lanes w32 r lr.fits))
          (exact_next h x a r k is.exact (rw (taps, samples) at exact));
    }

-- the same at a place, which is so many sixteens
pub so_far_on : (h x a hs xs r : List ℤ) (at : ℕ) → at ≡ 16 * (at / 16) → AreSoFar h x (at / 16) a →
    AreLanes w16 16 hs →
    hs ≡ take 16 (drop at h) → AreLanes w16 16 xs → xs ≡ take 16 (drop at x) → AreLanes w32 8 r →
    wrap (total r) ≡ wrap (total a +ℤ dot (map (to_z w16) (map (of_z w16) hs)) (map (to_z w16) (map (of_z w16) xs))) →
    ((m : ℕ) → AreLanesWithin m a → m + weight (map (to_z w16) (map (of_z w16) hs)) * 32768 ≤ 2147483647 →
    AreLanesWithin (m + weight (map (to_z w16) (map (of_z w16) hs)) * 32768) r
    × (total r ≡ total a +ℤ dot (map (to_z w16) (map (of_z w16) hs)) (map (to_z w16) (map (of_z w16) xs)))) →
    AreSoFar h x ((at + 16) / 16) (map (to_z w32) (map (of_z w32) r))
so_far_on h x a hs xs r at whole is lh eh lx ex lr value exact =
    let one : at / 16 + 1 ≡ (at + 16) / 16 = omega arith in
    subst (λ k. AreSoFar h x k (map (to_z w32) (map (of_z w32) r))) one
    (so_far_next h x a hs xs r (at / 16) is lh (eh ∙ ap (λ n. take 16 (drop n h)) whole) lx
    (ex ∙ ap (λ n. take 16 (drop n x)) whole) lr value exact)

pub so_far_all : (h x a : List ℤ) (at : ℕ) → length h % 16 ≡ 0 → length h ≤ at → at ≤ length h →
    length x ≡ length h → AreSoFar h x (at / 16) a → AreSums h x a
so_far_all h x a at whole over under same is =
    let k : ℕ = at / 16 in
    let last : length h / 16 ≡ k = omega arith in
    let all : length h ≤ 16 * k = omega arith in
    let taps : take (16 * k) h ≡ h = take_all (16 * k) h all in
    let samples : take (16 * k) x ≡ x = take_all (16 * k) x (omega arith) in
    record {
      lanes = is.some.lanes;
      value = whole_dot h x a (16 * k) is.some all same;
      exact = λ light. (is.exact (subst (λ n. IsStretch n h) last light)).1
          ∙ (ap (λ z. dot z (take (16 * k) x)) taps ∙ ap (dot h) samples);
    }

-- sums that are passed on
pub sums_passed : (h x a : List ℤ) → AreSums h x a → AreSums h x (map (to_z w32) (map (of_z w32) a))
sums_passed h x a s = rw (same_lanes w32 a s.lanes.fits) s

total_small : (n : ℕ) (a : List ℤ) → length a ≡ n → Each1 (FitsSigned w32) a → unsigned_abs (total a) ≤ n * 2147483648
total_small n [] e f = omega arith
total_small zero (x ∷ a) e f = absurd (omega (arith, e))
total_small (suc n) (x ∷ a) e f =
    let rest = total_small n a (omega (arith, e)) f.1 in
    let both = abs_add x (total a) in
    let here : unsigned_abs x ≤ 2147483648 = lane_small x f.0 in
    omega arith
  where
    lane_small : (x : ℤ) → FitsSigned w32 x → unsigned_abs x ≤ 2147483648
    lane_small (pos n) f = omega (arith, f.sfits)
    lane_small (negsuc n) f = omega (arith, f.sfits)

-- the dot product that the sums of a stretch come to
pub stretch_total : (h x a : List ℤ) → AreSums h x a → IsStretch (length h / 16) h →
    total (map (to_z w32) (map (of_z w32) a)) ≡ dot h x
stretch_total h x a s light = (sums_passed h x a s).exact light

pub stretch_fits : (h x a : List ℤ) → AreSums h x a → IsStretch (length h / 16) h → FitsSigned w64 (dot h x)
stretch_fits h x a s light =
    let small = total_small 8 a s.lanes.many s.lanes.fits in
    subst (FitsSigned w64) (s.exact light) (fits_signed_from_abs w64 (total a) (omega arith))
