-- Totals within 32 bits.
use Rattle.std.proofs.Common.{◌≤◌, ◌≡◌, ℕ, zero, suc, ◌+◌, ◌*◌, ℤ, pos, ◌+ℤ◌, ◌*ℤ◌, List, [], ◌∷◌, ◌++◌, map, length}
use Rattle.std.proofs.Common.{take, drop, of_z, to_z, w32, FitsSigned, refl, sym, ap, ◌∙◌, arith}
use Rattle.std.specs.Int.{Width, w16}
use Rattle.std.proofs.lemmas.Int.{ints, to_z-of_z, int_wrap-add_left, int_wrap-add_right, int_wrap-add_same}
use Rattle.std.proofs.lemmas.Int.{SFits-int_wrap}
use Rattle.std.proofs.lemmas.Simd.{length-zip2}
use Rattle.std.proofs.lemmas.List.{length-append, length-take-le, length-drop}
use Rattle.std.specs.Simd.Lanes.{zip2, Each1}
use Rattle.sdf_kit.specs.Dots.{wrap, neighbours, AreLanes, total, dot}

-- sums of 32 bits that come to the dot product of the first n
pub record IsDot (h x : List ℤ) (n : ℕ) (sums : List ℤ) : Type 0 where
  pub lanes : AreLanes w32 8 sums
  pub value : wrap (total sums) ≡ wrap (dot (take n h) (take n x))

-- what a call passes
pub same_lanes : (w : Width) (xs : List ℤ) → Each1 (FitsSigned w) xs → map (to_z w) (map (of_z w) xs) ≡ xs
same_lanes w [] f = refl
same_lanes w (x ∷ xs) f = rw (to_z-of_z w x f.0, same_lanes w xs f.1) refl

pub passed : (w : Width) (n : ℕ) (xs : List ℤ) → AreLanes w n xs → AreLanes w n (map (to_z w) (map (of_z w) xs))
passed w n xs l = rw (same_lanes w xs l.fits) l

pub total_plus : (xs ys : List ℤ) → length xs ≡ length ys →
    wrap (total (zip2 (λ x y. wrap (x +ℤ y)) xs ys)) ≡ wrap (total xs +ℤ total ys)
total_plus [] [] e = refl
total_plus [] (y ∷ ys) e = absurd (omega (arith, e))
total_plus (x ∷ xs) [] e = absurd (omega (arith, e))
total_plus (x ∷ xs) (y ∷ ys) e =
    let rest : ℤ = total (zip2 (λ x y. wrap (x +ℤ y)) xs ys) in
    let ih : wrap rest ≡ wrap (total xs +ℤ total ys) = total_plus xs ys (omega (arith, e)) in
    let turned : (x +ℤ y) +ℤ rest ≡ rest +ℤ (x +ℤ y) = omega (arith, ints) in
    let back : (total xs +ℤ total ys) +ℤ (x +ℤ y) ≡ (x +ℤ total xs) +ℤ (y +ℤ total ys) = omega (arith, ints) in
    int_wrap-add_left w32 (x +ℤ y) rest ∙ (ap wrap turned
    ∙ (int_wrap-add_same w32 rest (total xs +ℤ total ys) (x +ℤ y) ih ∙ ap wrap back))

pub lanes_plus : (n : ℕ) (xs ys : List ℤ) → length xs ≡ n → length ys ≡ n →
    AreLanes w32 n (zip2 (λ x y. wrap (x +ℤ y)) xs ys)
lanes_plus n [] ys e f = record { many = e; fits = tt }
lanes_plus n (x ∷ xs) [] e f = absurd (omega (arith, e, f))
lanes_plus zero (x ∷ xs) (y ∷ ys) e f = absurd (omega (arith, e))
lanes_plus (suc n) (x ∷ xs) (y ∷ ys) e f =
    let rest = lanes_plus n xs ys (omega (arith, e)) (omega (arith, f)) in
    record { many = ap suc rest.many; fits = (SFits-int_wrap w32 (x +ℤ y), rest.fits) }

pub total_neighbours : (n : ℕ) (p : List ℤ) → length p ≡ n + n → wrap (total (neighbours p)) ≡ wrap (total p)
total_neighbours n [] e = refl
total_neighbours n (x ∷ []) e = absurd (omega (arith, e))
total_neighbours zero (x ∷ y ∷ p) e = absurd (omega (arith, e))
total_neighbours (suc n) (x ∷ y ∷ p) e =
    let rest : ℤ = total (neighbours p) in
    let ih : wrap rest ≡ wrap (total p) = total_neighbours n p (omega (arith, e)) in
    let turned : (x +ℤ y) +ℤ rest ≡ rest +ℤ (x +ℤ y) = omega (arith, ints) in
    let back : total p +ℤ (x +ℤ y) ≡ x +ℤ (y +ℤ total p) = omega (arith, ints) in
    int_wrap-add_left w32 (x +ℤ y) rest ∙ (ap wrap turned
    ∙ (int_wrap-add_same w32 rest (total p) (x +ℤ y) ih ∙ ap wrap back))

pub lanes_neighbours : (n : ℕ) (p : List ℤ) → length p ≡ n + n → AreLanes w32 n (neighbours p)
lanes_neighbours zero [] e = record { many = refl; fits = tt }
lanes_neighbours (suc n) [] e = absurd (omega (arith, e))
lanes_neighbours n (x ∷ []) e = absurd (omega (arith, e))
lanes_neighbours zero (x ∷ y ∷ p) e = absurd (omega (arith, e))
lanes_neighbours (suc n) (x ∷ y ∷ p) e =
    let rest = lanes_neighbours n p (omega (arith, e)) in
    record { many = ap suc rest.many; fits = (SFits-int_wrap w32 (x +ℤ y), rest.fits) }

pub total_products : (h x : List ℤ) → total (zip2 (λ a b. a *ℤ b) h x) ≡ dot h x
total_products [] x = refl
total_products (h ∷ hs) [] = refl
total_products (h ∷ hs) (x ∷ xs) = ap (λ z. (h *ℤ x) +ℤ z) (total_products hs xs)

-- the first n, and the next m
pub dot_more : (n m : ℕ) (h x : List ℤ) → dot (take (n + m) h) (take (n + m) x) ≡
    dot (take n h) (take n x) +ℤ dot (take m (drop n h)) (take m (drop n x))
dot_more zero m h x =
    let e : 0 + m ≡ m = omega arith in
    let back : dot (take m h) (take m x) ≡ pos 0 +ℤ dot (take m h) (take m x) = omega (arith, ints) in
    rw e back
dot_more (suc n) m [] x =
    let e : suc n + m ≡ suc (n + m) = omega arith in
    rw e (no_taps m (drop (suc n) x))
  where
    no_taps : (m : ℕ) (x : List ℤ) → pos 0 ≡ pos 0 +ℤ dot (take m []) (take m x)
    no_taps zero x = refl
    no_taps (suc m) x = refl
dot_more (suc n) m (h ∷ hs) [] =
    let e : suc n + m ≡ suc (n + m) = omega arith in
    rw e (dot_none m (drop n hs))
  where
    dot_none : (m : ℕ) (hs : List ℤ) → pos 0 ≡ pos 0 +ℤ dot (take m hs) (take m [])
    dot_none zero hs = refl
    dot_none (suc m) [] = refl
    dot_none (suc m) (h ∷ hs) = refl
dot_more (suc n) m (h ∷ hs) (x ∷ xs) =
    let e : suc n + m ≡ suc (n + m) = omega arith in
    let ih : dot (take (n + m) hs) (take (n + m) xs) ≡
    dot (take n hs) (take n xs) +ℤ dot (take m (drop n hs)) (take m (drop n xs)) = dot_more n m hs xs in
    rw e (omega (arith, ints))

pub step : (h x sums more : List ℤ) (n : ℕ) → IsDot h x n sums → AreLanes w32 8 more →
    wrap (total more) ≡ wrap (total sums +ℤ dot (take 16 (drop n h)) (take 16 (drop n x))) → IsDot h x (n + 16) more
step h x sums more n is lanes e =
    let next : ℤ = dot (take 16 (drop n h)) (take 16 (drop n x)) in
    let same : wrap (total sums +ℤ next) ≡ wrap (dot (take n h) (take n x) +ℤ next) =
    int_wrap-add_same w32 (total sums) (dot (take n h) (take n x)) next is.value in
    record { lanes = lanes; value = e ∙ (same ∙ ap wrap (sym (dot_more n 16 h x))) }

-- what `products` gives
pub made : (h x p : List ℤ) → AreLanes w16 16 h → AreLanes w16 16 x →
    p ≡ neighbours (zip2 (λ a b. a *ℤ b) (map (to_z w16) (map (of_z w16) h)) (map (to_z w16) (map (of_z w16) x))) →
    AreLanes w32 8 p × (wrap (total p) ≡ wrap (dot h x))
made h x p lh lx e =
    let is : p ≡ neighbours (zip2 (λ a b. a *ℤ b) h x) = rw (same_lanes w16 h lh.fits, same_lanes w16 x lx.fits) at e in
    let long : length (zip2 (λ a b. a *ℤ b) h x) ≡ 8 + 8 =
    length-zip2 (λ a b. a *ℤ b) h x (lh.many ∙ sym lx.many) ∙ lh.many in (
      rw is (lanes_neighbours 8 (zip2 (λ a b. a *ℤ b) h x) long),
      ap (λ z. wrap (total z)) is ∙ (total_neighbours 8 (zip2 (λ a b. a *ℤ b) h x) long ∙ ap wrap (total_products h x)),
    )

-- what `plus` gives
pub joined : (sums p r : List ℤ) (z : ℤ) → AreLanes w32 8 sums → AreLanes w32 8 p → wrap (total p) ≡ wrap z →
    r ≡ zip2 (λ x y. wrap (x +ℤ y)) (map (to_z w32) (map (of_z w32) sums)) (map (to_z w32) (map (of_z w32) p)) →
    AreLanes w32 8 r × (wrap (total r) ≡ wrap (total sums +ℤ z))
joined sums p r z ls lp same e =
    let is : r ≡ zip2 (λ x y. wrap (x +ℤ y)) sums p = rw (same_lanes w32 sums ls.fits, same_lanes w32 p lp.fits) at e in
    let turned : total sums +ℤ total p ≡ total p +ℤ total sums = omega (arith, ints) in
    let back : z +ℤ total sums ≡ total sums +ℤ z = omega (arith, ints) in (
      rw is (lanes_plus 8 sums p ls.many lp.many),
      ap (λ z. wrap (total z)) is ∙ (total_plus sums p (ls.many ∙ sym lp.many)
          ∙ (ap wrap turned ∙ (int_wrap-add_same w32 (total p) z (total sums) same ∙ ap wrap back))),
    )

-- neighbours of two lists
halves : (n : ℕ) (a b : List ℤ) → length a ≡ n + n → neighbours (a ++ b) ≡ neighbours a ++ neighbours b
halves n [] b e = refl
halves n (x ∷ []) b e = absurd (omega (arith, e))
halves zero (x ∷ y ∷ a) b e = absurd (omega (arith, e))
halves (suc n) (x ∷ y ∷ a) b e = ap (λ z. wrap (x +ℤ y) ∷ z) (halves n a b (omega (arith, e)))

one : (a : List ℤ) → length a ≡ 4 → neighbours (neighbours a) ≡ wrap (total a) ∷ []
one (a ∷ b ∷ c ∷ d ∷ []) e =
    let back : (a +ℤ b) +ℤ (c +ℤ d) ≡ a +ℤ (b +ℤ (c +ℤ (d +ℤ pos 0))) = omega (arith, ints) in
    ap (λ z. z ∷ []) (int_wrap-add_left w32 (a +ℤ b) (wrap (c +ℤ d))
    ∙ (int_wrap-add_right w32 (a +ℤ b) (c +ℤ d) ∙ ap wrap back))
one [] e = absurd (omega (arith, e))
one (a ∷ []) e = absurd (omega (arith, e))
one (a ∷ b ∷ []) e = absurd (omega (arith, e))
one (a ∷ b ∷ c ∷ []) e = absurd (omega (arith, e))
one (a ∷ b ∷ c ∷ d ∷ f ∷ rest) e = absurd (omega (arith, e))

total_halves : (n : ℕ) (xs : List ℤ) → total (take n xs) +ℤ total (drop n xs) ≡ total xs
total_halves zero xs = omega (arith, ints)
total_halves (suc n) [] = refl
total_halves (suc n) (x ∷ xs) =
    let ih : total (take n xs) +ℤ total (drop n xs) ≡ total xs = total_halves n xs in
    rw (sym ih) (omega (arith, ints))

-- what `folded` gives
pub folded : (a r : List ℤ) → AreLanes w32 8 a →
    r ≡ zip2 (λ x y. wrap (x +ℤ y)) (take 4 (map (to_z w32) (map (of_z w32) a)))
    (drop 4 (map (to_z w32) (map (of_z w32) a))) →
    AreLanes w32 4 r × (wrap (total r) ≡ wrap (total a))
folded a r l e =
    let is : r ≡ zip2 (λ x y. wrap (x +ℤ y)) (take 4 a) (drop 4 a) = rw (same_lanes w32 a l.fits) at e in
    let low : length (take 4 a) ≡ 4 = length-take-le 4 a (rw l.many (omega arith)) in
    let high : length (drop 4 a) ≡ 4 = length-drop 4 a ∙ rw l.many refl in (
      rw is (lanes_plus 4 (take 4 a) (drop 4 a) low high),
      ap (λ z. wrap (total z)) is ∙ (total_plus (take 4 a) (drop 4 a) (low ∙ sym high) ∙ ap wrap (total_halves 4 a)),
    )

-- what `pairs` gives
pub paired : (a b p : List ℤ) → AreLanes w32 4 a → AreLanes w32 4 b →
    p ≡ neighbours (map (to_z w32) (map (of_z w32) a) ++ map (to_z w32) (map (of_z w32) b)) →
    AreLanes w32 4 p × (p ≡ neighbours (a ++ b))
paired a b p la lb e =
    let is : p ≡ neighbours (a ++ b) = rw (same_lanes w32 a la.fits, same_lanes w32 b lb.fits) at e in
    let long : length (a ++ b) ≡ 4 + 4 = length-append a b
    ∙ (ap (λ n. n + length b) la.many ∙ ap (λ n. 4 + n) lb.many) in
    (rw is (lanes_neighbours 4 (a ++ b) long), is)

pub four_totals : (a b c d p q r : List ℤ) → AreLanes w32 4 a → AreLanes w32 4 b → AreLanes w32 4 c → AreLanes w32 4 d →
    AreLanes w32 4 r →
    p ≡ neighbours (a ++ b) → q ≡ neighbours (c ++ d) → r ≡ neighbours (p ++ q) →
    map (to_z w32) (map (of_z w32) r) ≡ wrap (total a) ∷ wrap (total b) ∷ wrap (total c) ∷ wrap (total d) ∷ []
four_totals a b c d p q r la lb lc ld lr ep eq er =
    let na : length (neighbours a) ≡ 2 = (lanes_neighbours 2 a la.many).many in
    let nb : length (neighbours b) ≡ 2 = (lanes_neighbours 2 b lb.many).many in
    let nc : length (neighbours c) ≡ 2 = (lanes_neighbours 2 c lc.many).many in
    let p_is : p ≡ neighbours a ++ neighbours b = ep ∙ halves 2 a b la.many in
    let q_is : q ≡ neighbours c ++ neighbours d = eq ∙ halves 2 c d lc.many in
    let p_long : length p ≡ 4 = ap length p_is ∙ (length-append (neighbours a) (neighbours b)
    ∙ (ap (λ n. n + length (neighbours b)) na ∙ ap (λ n. 2 + n) nb)) in
    let first : neighbours p ≡ neighbours (neighbours a) ++ neighbours (neighbours b) =
    ap neighbours p_is ∙ halves 1 (neighbours a) (neighbours b) na in
    let second : neighbours q ≡ neighbours (neighbours c) ++ neighbours (neighbours d) =
    ap neighbours q_is ∙ halves 1 (neighbours c) (neighbours d) nc in
    let whole : neighbours (p ++ q) ≡ neighbours p ++ neighbours q = halves 2 p q p_long in
    same_lanes w32 r lr.fits ∙ (er ∙ (whole ∙ rw (
      first,
      second,
      one a la.many,
      one b lb.many,
      one c lc.many,
      one d ld.many,
    ) refl))

-- before the first chunk
pub nothing : (h x : List ℤ) →
    IsDot h x 0 (pos 0 ∷ pos 0 ∷ pos 0 ∷ pos 0 ∷ pos 0 ∷ pos 0 ∷ pos 0 ∷ pos 0 ∷ [])
nothing h x =
    let zero_fits : FitsSigned w32 (pos 0) = record { sfits = omega arith } in
    record {
      lanes = record {
        many = refl;
        fits = (
          zero_fits,
          (
            zero_fits,
            (zero_fits, (zero_fits, (zero_fits, (zero_fits, (zero_fits, (zero_fits, tt)))))),
          ),
        );
      };
      value = refl;
    }

-- one chunk more
pub next : (h x a hs xs r : List ℤ) (k : ℕ) → IsDot h x (16 * k) a → AreLanes w16 16 hs →
    hs ≡ take 16 (drop (16 * k) h) →
    AreLanes w16 16 xs → xs ≡ take 16 (drop (16 * k) x) →
    AreLanes w32 8 r → wrap (total r) ≡ wrap (total a +ℤ dot (map (to_z w16) (map (of_z w16) hs))
    (map (to_z w16) (map (of_z w16) xs))) →
    IsDot h x (16 * (k + 1)) (map (to_z w32) (map (of_z w32) r))
next h x a hs xs r k is lh eh lx ex lr e =
    let place : 16 * (k + 1) ≡ 16 * k + 16 = omega arith in
    let taps : map (to_z w16) (map (of_z w16) hs) ≡ take 16 (drop (16 * k) h) = same_lanes w16 hs lh.fits ∙ eh in
    let samples : map (to_z w16) (map (of_z w16) xs) ≡ take 16 (drop (16 * k) x) = same_lanes w16 xs lx.fits ∙ ex in
    let here : wrap (total r) ≡ wrap (total a +ℤ dot (take 16 (drop (16 * k) h)) (take 16 (drop (16 * k) x))) =
    rw (taps, samples) at e in
    rw (place, same_lanes w32 r lr.fits) (step h x a r (16 * k) is lr here)

-- all chunks
pub whole_dot : (h x a : List ℤ) (n : ℕ) → IsDot h x n a → length h ≤ n → length x ≡ length h →
    wrap (total a) ≡ wrap (dot h x)
whole_dot h x a n is over same =
    let all_taps : take n h ≡ h = take_all n h over in
    let all_samples : take n x ≡ x = take_all n x (omega (arith, same)) in
    rw (all_taps, all_samples) at is.value
  where
    take_all : (n : ℕ) (xs : List ℤ) → length xs ≤ n → take n xs ≡ xs
    take_all zero [] l = refl
    take_all zero (x ∷ xs) l = absurd (omega (arith, l))
    take_all (suc n) [] l = refl
    take_all (suc n) (x ∷ xs) l = ap (λ z. x ∷ z) (take_all n xs (omega (arith, l)))

pub four_wrapped : (a b c d : ℤ) → map (to_z w32) (map (of_z w32) (wrap a ∷ wrap b ∷ wrap c ∷ wrap d ∷ [])) ≡
    wrap a ∷ wrap b ∷ wrap c ∷ wrap d ∷ []
four_wrapped a b c d = same_lanes w32 (wrap a ∷ wrap b ∷ wrap c ∷ wrap d ∷ [])
    (SFits-int_wrap w32 a, (SFits-int_wrap w32 b, (SFits-int_wrap w32 c, (SFits-int_wrap w32 d, tt))))
