-- Tables of branches, and sums of absolute values.
use Rattle.std.proofs.Common.{◌≡◌, ℕ, zero, suc, ◌+◌, ◌-◌, ◌*◌, ◌/◌, ◌%◌, ◌<◌, ◌≤◌, ℤ, pos, List, [], ◌∷◌, length, map}
use Rattle.std.proofs.Common.{take, drop, get_or, unsigned_abs, Bool, true, FitsSigned, refl, sym, ap, subst, ◌∙◌}
use Rattle.std.proofs.Common.{arith, ⊎_elim}
use Rattle.std.specs.Int.{w16}
use Rattle.std.specs.List.{range_with_len}
use Rattle.std.specs.Simd.Lanes.{Each1}
use Rattle.std.proofs.lemmas.Bool.{cases_lt}
use Rattle.std.proofs.lemmas.Nat.{div-mul-add, mod-mul-add, row_fits, div-add-mod'}
use Rattle.std.proofs.lemmas.List.{length-take-le, length-drop, get_or-take, get_or-drop, get_or_past}
use Rattle.std.proofs.lemmas.List.FromFn.{fill_by_all, length-map-range_with_len, get_or-map-range_with_len}
use Rattle.std.proofs.Math.Nat.{mul-le-mul_left, mul-le-mul_right, add-mul, mul_assoc, mul_comm}
use Rattle.sdf_kit.specs.Fir.{AreTaps}
use Rattle.sdf_kit.specs.Dots.{total_abs}
use Rattle.sdf_kit.specs.Branches.{branch, branch_at, AreQuiet, AreBranches}
use Rattle.sdf_kit.specs.Stretches.{IsReach, AreStretches}
use Rattle.sdf_kit.specs.declared.branches.Branches.{Branches}

-- what a table has at a place
abbrev pub place_tap : List ℤ → ℕ → ℕ → ℕ → ℤ
place_tap taps up width place = get_or taps (place / width + (width - 1 - place % width) * up) (pos 0)

module _ (taps : List ℤ) (up width p n : ℕ) where
  abbrev table : List ℤ
  table = map (place_tap taps up width) (range_with_len 0 n)

  place : (k : ℕ) → p * width + width ≤ n → k < width →
      get_or (take width (drop (p * width) table)) k (pos 0) ≡ get_or taps (p + (width - 1 - k) * up) (pos 0)
  place k room l =
      let row : (p * width + k) / width ≡ p = div-mul-add p width k l in
      let column : (p * width + k) % width ≡ k = mod-mul-add p width k l in
      let same : place_tap taps up width (p * width + k) ≡ get_or taps (p + (width - 1 - k) * up) (pos 0) =
      rw (row, column) refl in
      get_or-take width (drop (p * width) table) k (pos 0) l ∙ (get_or-drop (p * width) table k (pos 0) ∙
      (get_or-map-range_with_len (place_tap taps up width) 0 n (p * width + k) (p * width + k) (pos 0) (omega arith)
      (omega arith) ∙ same))

  pub slice_is : p * width + width ≤ n → take width (drop (p * width) table) ≡ branch taps up p width
  slice_is room =
      let whole : length table ≡ n = length-map-range_with_len (place_tap taps up width) 0 n in
      let rest : length (drop (p * width) table) ≡ length table - p * width = length-drop (p * width) table in
      fill_by_all (λ i. get_or taps (p + (width - 1 - i) * up) (pos 0)) (take width (drop (p * width) table)) width
      (pos 0) (length-take-le width (drop (p * width) table) (omega arith)) (λ k l. place k room l)

pub each1 : (P : ℤ → Type 0) (xs : List ℤ) → ((k : ℕ) → k < length xs → P (get_or xs k (pos 0))) → Each1 P xs
each1 P [] each = tt
each1 P (x ∷ xs) each = (each 0 (omega arith), each1 P xs (λ k l. each (suc k) (omega arith)))

-- a tap, or none, has 16 bits
pub tap_short : (taps : List ℤ) (at : ℕ) → AreTaps taps → FitsSigned w16 (get_or taps at (pos 0))
tap_short taps at are = ⊎_elim (λ l. are.small at l)
    (λ l. let none = get_or_past taps at (pos 0) l in
    subst (λ z. FitsSigned w16 z) (sym none) (record { sfits = omega arith })) (cases_lt at (length taps))

pub branch_short : (taps : List ℤ) (up p n : ℕ) → AreTaps taps → Each1 (FitsSigned w16) (branch taps up p n)
branch_short taps up p n are =
    each1 (FitsSigned w16) (branch taps up p n) (λ k l.
    let long : length (branch taps up p n) ≡ n = length-map-range_with_len
    (λ i. get_or taps (p + (n - 1 - i) * up) (pos 0)) 0 n in
    let is = get_or-map-range_with_len (λ i. get_or taps (p + (n - 1 - i) * up) (pos 0)) 0 n k k (pos 0) (omega arith)
    (omega arith) in
    subst (λ z. FitsSigned w16 z) (sym is) (tap_short taps (p + (n - 1 - k) * up) are))

-- one number more
pub total_abs_more : (xs : List ℤ) (i : ℕ) → i < length xs →
    total_abs (take (i + 1) xs) ≡ total_abs (take i xs) + unsigned_abs (get_or xs i (pos 0))
total_abs_more [] i l = absurd (omega arith)
total_abs_more (x ∷ xs) zero l = omega arith
total_abs_more (x ∷ xs) (suc i) l =
    let e : suc i + 1 ≡ suc (i + 1) = omega arith in
    let ih : total_abs (take (i + 1) xs) ≡ total_abs (take i xs) + unsigned_abs (get_or xs i (pos 0)) =
    total_abs_more xs i (omega arith) in
    rw e (omega arith)

-- so many lanes hold each branch, and so many places all branches
pub record Fits (kept up width : ℕ) : Type 0 where
  pub lanes : width % 16 ≡ 0
  pub more : kept < width
  pub few : width ≤ 1024
  pub room : up * width ≤ 2048

pub width_fits : (len up : ℕ) → 1 ≤ len → len ≤ 1024 → 1 ≤ up → up ≤ 64 →
    Fits ((len - 1) / up) up (((len - 1) / up + 16) / 16 * 16)
width_fits len up some few up_some up_few =
    let kept : ℕ = (len - 1) / up in
    let back : kept * up + (len - 1) % up ≡ len - 1 = div-add-mod' (len - 1) up in
    let least : kept * 1 ≤ kept * up = mul-le-mul_left kept up_some in
    let width : ℕ = (kept + 16) / 16 * 16 in
    let wide : width ≤ kept + 16 = omega arith in
    let turned : up * width ≡ width * up = mul_comm up width in
    let most : width * up ≤ (kept + 16) * up = mul-le-mul_right up wide in
    let parts : (kept + 16) * up ≡ kept * up + 16 * up = add-mul kept 16 up in
    record { lanes = omega arith; more = omega arith; few = omega arith; room = omega arith }

-- as many sixteens of all branches as there is room for
pub sixteens_fit : (up width : ℕ) → width % 16 ≡ 0 → up * width ≤ 2048 → up * (width / 16) ≤ 128
sixteens_fit up width whole room =
    let all : width / 16 * 16 ≡ width = omega arith in
    let same : up * (width / 16) * 16 ≡ up * width = mul_assoc up (width / 16) 16 ∙ ap (λ w. up * w) all in
    omega arith

-- the stretches of a branch, among those of all branches
module _ (table : List ℤ) (stretches : List ℕ) (up width p : ℕ) (whole : width % 16 ≡ 0) (some : 1 ≤ width)
    (room : up * width ≤ length table) (places : up * (width / 16) ≤ length stretches) (l : p < up) where
  abbrev sixteens : ℕ
  sixteens = width / 16

  abbrev row : List ℤ
  row = take width (drop (p * width) table)

  abbrev lens : List ℕ
  lens = take sixteens (drop (p * sixteens) stretches)

  taps_fit : p * width + width ≤ length table
  taps_fit = (let r : p * width + width ≤ up * width = row_fits p width up width l (omega arith) in omega arith)

  lens_fit : p * sixteens + sixteens ≤ up * sixteens
  lens_fit = row_fits p sixteens up sixteens l (omega arith)

  pub row_long : length row ≡ width
  row_long = length-take-le width (drop (p * width) table) (omega (arith, taps_fit, length-drop (p * width) table))

  lens_long : length lens ≡ sixteens
  lens_long = length-take-le sixteens (drop (p * sixteens) stretches)
      (omega (arith, lens_fit, places, length-drop (p * sixteens) stretches))

  len_is : (k : ℕ) → k < sixteens → get_or lens k 0 ≡ get_or stretches (p * sixteens + k) 0
  len_is k h = get_or-take sixteens (drop (p * sixteens) stretches) k 0 h ∙ get_or-drop (p * sixteens) stretches k 0

  pub row_stretches :
      ((k : ℕ) → k < length (take (up * sixteens) stretches) → 1 ≤ get_or (take (up * sixteens) stretches) k 0) →
      ((k : ℕ) → k < up * sixteens → IsReach (get_or stretches k 0)
      (drop (16 * (k % sixteens)) (take width (drop (k / sixteens * width) table)))) →
      AreStretches row lens
  row_stretches each_some each = record {
    many = lens_long ∙ sym (ap (λ n. n / 16) row_long);
    some = λ k h.
        let k_in : k < sixteens = omega (arith, lens_long) in
        let all : p * sixteens + k < up * sixteens = omega (arith, lens_fit) in
        subst (λ n. 1 ≤ n) (get_or-take (up * sixteens) stretches (p * sixteens + k) 0 all ∙ sym (len_is k k_in))
        (each_some (p * sixteens + k)
        (omega (arith, length-take-le (up * sixteens) stretches places)));
    each = λ k h.
        let k_in : k < sixteens = omega (arith, lens_long) in
        let at : IsReach (get_or stretches (p * sixteens + k) 0)
        (drop (16 * ((p * sixteens + k) % sixteens))
        (take width (drop ((p * sixteens + k) / sixteens * width) table))) =
        each (p * sixteens + k) (omega (arith, lens_fit)) in
        let column : (p * sixteens + k) % sixteens ≡ k = mod-mul-add p sixteens k k_in in
        let row_is : (p * sixteens + k) / sixteens ≡ p = div-mul-add p sixteens k k_in in
        subst (λ m. IsReach m (drop (16 * k) row)) (sym (len_is k k_in))
        (subst (λ c. IsReach (get_or stretches (p * sixteens + k) 0) (drop (16 * c) row)) column
        (subst (λ r. IsReach (get_or stretches (p * sixteens + k) 0)
        (drop (16 * ((p * sixteens + k) % sixteens)) (take width (drop (r * width) table)))) row_is at));
  }

pub branches_are : (taps table : List ℤ) (stretches : List ℕ) (up width peak gain : ℕ) (wide : Bool) → AreTaps taps →
    Fits ((length taps - 1) / up) up width → table ≡ map (place_tap taps up width) (range_with_len 0 2048) →
    length stretches ≡ 128 →
    ((k : ℕ) → k < up * (width / 16) → IsReach (get_or stretches k 0)
    (drop (16 * (k % (width / 16))) (take width (drop (k / (width / 16) * width) table)))) →
    (wide ≡ true → (k : ℕ) → k < length (take (up * (width / 16)) stretches) →
    1 ≤ get_or (take (up * (width / 16)) stretches) k 0) →
    ((p : ℕ) → p < up → total_abs (take width (drop (p * width) table)) ≤ gain) → gain * peak ≤ 2147467263 →
    peak ≤ 32767 →
    AreBranches taps up (record {
      table = table;
      stretches = stretches;
      width = width;
      limits = record { peak = peak; is_wide = wide };
    })
branches_are taps table stretches up width peak gain wide are fits is places each each_some greatest quiet small =
    record {
      quiet = record {
        some = some;
        few = fits.few;
        room = room;
        stretches_room = sixteens_room;
        peak = small;
        each = λ p l. record {
          vectors = record {
            whole = ap (λ n. n % 16) (row_long table stretches up width p fits.lanes some room sixteens_room
                l) ∙ fits.lanes;
            few = omega (arith, row_long table stretches up width p fits.lanes some room sixteens_room l, fits.few);
            short = subst (λ xs. Each1 (FitsSigned w16) xs) (sym (slice p l)) (branch_short taps up p width are);
          };
          quiet = let g : total_abs (take width (drop (p * width) table)) * peak ≤ gain * peak =
              mul-le-mul_right peak (greatest p l) in omega arith;
          wide = λ e. row_stretches table stretches up width p fits.lanes some room sixteens_room l (each_some e) each;
        };
      };
      reach = fits.more;
      are = λ p l. slice p l;
    }
  where
    long : length table ≡ 2048
    long = ap length is ∙ length-map-range_with_len (place_tap taps up width) 0 2048

    some : 1 ≤ width
    some = let more = fits.more in omega arith

    room : up * width ≤ length table
    room = omega (arith, fits.room, long)

    sixteens_room : up * (width / 16) ≤ length stretches
    sixteens_room = omega (arith, sixteens_fit up width fits.lanes fits.room, places)

    slice : (p : ℕ) → p < up → take width (drop (p * width) table) ≡ branch taps up p width
    slice p l =
        let row : p * width + width ≤ up * width = row_fits p width up width l (omega arith) in
        ap (λ xs. take width (drop (p * width) xs)) is ∙ slice_is taps up width p 2048 (omega (arith, row, fits.room))

pub length-branch_at : (up : ℕ) (b : Branches) (p : ℕ) → AreQuiet up b → p < up → length (branch_at b p) ≡ b.width
length-branch_at up b p q l =
    let row : p * b.width + b.width ≤ up * b.width = row_fits p b.width up b.width l (omega arith) in
    length-take-le b.width (drop (p * b.width) b.table) (omega (arith, row, q.room, length-drop (p * b.width) b.table))
