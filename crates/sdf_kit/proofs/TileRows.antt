-- Rows of taps, one after another.
use Rattle.std.proofs.Common.{◌≡◌, ℕ, ◌+◌, ◌-◌, ◌*◌, ◌/◌, ◌%◌, ◌<◌, ◌≤◌, ℤ, pos, List, length, take, drop, get_or, sym}
use Rattle.std.proofs.Common.{ap}
use Rattle.std.proofs.Common.{◌∙◌, ◌++◌, Bool, true, false, FitsSigned, subst, arith, ⊎_elim}
use Rattle.std.specs.Prelude.{cond, nat_le}
use Rattle.std.specs.Int.{w16}
use Rattle.std.specs.Simd.Lanes.{Each1}
use Rattle.std.proofs.lemmas.Bool.{cases_lt}
use Rattle.std.proofs.lemmas.Nat.{div-add-mod', mod_below, div_below, row_fits}
use Rattle.std.proofs.lemmas.List.{length-append, length-take-le, length-drop, get_or-take, get_or-append-add}
use Rattle.std.proofs.lemmas.List.{get_or_append_left}
use Rattle.sdf_kit.specs.Fir.{AreTaps}
use Rattle.sdf_kit.specs.Tiles.{lane_place, tile_tap, keep_of, reach}
use Rattle.sdf_kit.proofs.Branching.{each1, tap_short}

-- a part of a list that is written
module _ (a n : ℕ) (xs ys : List ℤ) (room : a + n ≤ length xs) (long : length ys ≡ n) where
  abbrev written : List ℤ
  written = take a xs ++ (ys ++ drop n (drop a xs))

  front : length (take a xs) ≡ a
  front = length-take-le a xs (omega arith)

  pub written_long : length written ≡ length xs
  written_long =
      let all = length-append (take a xs) (ys ++ drop n (drop a xs)) in
      let rest = length-append ys (drop n (drop a xs)) in
      let last = length-drop n (drop a xs) in
      let later = length-drop a xs in
      let f = front in
      omega (arith, long)

  pub written_before : (k : ℕ) → k < a → get_or written k (pos 0) ≡ get_or xs k (pos 0)
  written_before k l =
      get_or_append_left (take a xs) (ys ++ drop n (drop a xs)) (pos 0) k (let f = front in omega arith)
      ∙ get_or-take a xs k (pos 0) l

  pub written_here : (k : ℕ) → k < n → get_or written (a + k) (pos 0) ≡ get_or ys k (pos 0)
  written_here k l =
      let place : a + k ≡ length (take a xs) + k = ap (λ m. m + k) (sym front) in
      ap (λ m. get_or written m (pos 0)) place
      ∙ (get_or-append-add (take a xs) (ys ++ drop n (drop a xs)) k (pos 0)
      ∙ get_or_append_left ys (drop n (drop a xs)) (pos 0) k (omega (arith, long)))

-- a tap, or none, has 16 bits
tile_short : (taps : List ℤ) (up down v l i : ℕ) → AreTaps taps → FitsSigned w16 (tile_tap taps up down v l i)
tile_short taps up down v l i are =
    either (nat_le i (reach up down v l + keep_of taps up))
    (get_or taps ((8 * v + l) * down % up + (reach up down v l + keep_of taps up - i) * up) (pos 0))
    (tap_short taps ((8 * v + l) * down % up + (reach up down v l + keep_of taps up - i) * up) are)
  where
    either : (b : Bool) (z : ℤ) → FitsSigned w16 z → FitsSigned w16 (cond b z (pos 0))
    either true z f = f
    either false z f = record { sfits = omega arith }

pub rows_short : (taps table : List ℤ) (up down vectors pairs : ℕ) → AreTaps taps →
    length table ≡ vectors * (16 * pairs) →
    ((v l i : ℕ) → v < vectors → l < 8 → i < 2 * pairs →
    get_or table (v * (16 * pairs) + lane_place l i) (pos 0) ≡ tile_tap taps up down v l i) →
    Each1 (FitsSigned w16) table
rows_short taps table up down vectors pairs are long done =
    each1 (FitsSigned w16) table (λ n l. ⊎_elim
    (λ some.
    let m : ℕ = n % (16 * pairs) in
    let v : ℕ = n / (16 * pairs) in
    let k : ℕ = m % 16 / 2 in
    let i : ℕ = 2 * (m / 16) + m % 2 in
    let low : m < 16 * pairs = mod_below n (16 * pairs) some in
    let row : v < vectors = div_below n (16 * pairs) vectors some (omega (arith, long)) in
    let back : v * (16 * pairs) + m ≡ n = div-add-mod' n (16 * pairs) in
    let place : v * (16 * pairs) + lane_place k i ≡ n = omega arith in
    subst (FitsSigned w16) (sym (ap (λ p. get_or table p (pos 0)) (sym place)
    ∙ done v k i row (omega arith) (omega arith)))
    (tile_short taps up down v k i are))
    (λ none.
    let nothing : vectors * (16 * pairs) ≡ 0 =
    ap (λ p. vectors * p) (let z : 16 * pairs ≡ 0 = omega arith in z) ∙ omega arith in
    absurd (omega (arith, long)))
    (cases_lt 0 (16 * pairs)))

-- one row more
pub rows_more : (taps table row : List ℤ) (up down vectors pairs v : ℕ) → v < vectors →
    length table ≡ vectors * (16 * pairs) → length row ≡ 16 * pairs →
    ((u l i : ℕ) → u < v → l < 8 → i < 2 * pairs →
    get_or table (u * (16 * pairs) + lane_place l i) (pos 0) ≡ tile_tap taps up down u l i) →
    ((l i : ℕ) → l < 8 → i < length row / 8 → get_or row (lane_place l i) (pos 0) ≡ tile_tap taps up down v l i) →
    (u l i : ℕ) → u < v + 1 → l < 8 → i < 2 * pairs →
    get_or (take (v * (16 * pairs)) table ++ (row ++ drop (16 * pairs) (drop (v * (16 * pairs)) table)))
    (u * (16 * pairs) + lane_place l i) (pos 0) ≡ tile_tap taps up down u l i
rows_more taps table row up down vectors pairs v low long row_long before here u l i h m few =
    let fits : v * (16 * pairs) + 16 * pairs ≤ vectors * (16 * pairs) =
    row_fits v (16 * pairs) vectors (16 * pairs) low (omega arith) in
    let within : lane_place l i < 16 * pairs = omega arith in
    ⊎_elim
    (λ less.
    let earlier : u * (16 * pairs) + 16 * pairs ≤ v * (16 * pairs) =
    row_fits u (16 * pairs) v (16 * pairs) less (omega arith) in
    written_before (v * (16 * pairs)) (16 * pairs) table row (omega (arith, long)) row_long
    (u * (16 * pairs) + lane_place l i) (omega arith) ∙ before u l i less m few)
    (λ over.
    let same : u ≡ v = omega arith in
    ap (λ w. get_or (take (v * (16 * pairs)) table ++ (row ++ drop (16 * pairs) (drop (v * (16 * pairs)) table)))
    (w * (16 * pairs) + lane_place l i) (pos 0)) same
    ∙ (written_here (v * (16 * pairs)) (16 * pairs) table row (omega (arith, long)) row_long (lane_place l i) within
    ∙ (here l i m (omega (arith, row_long)) ∙ ap (λ w. tile_tap taps up down w l i) (sym same))))
    (cases_lt u v)
