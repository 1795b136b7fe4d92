-- What differences of taps come to.
use Rattle.std.proofs.Common.{◌≡◌, ℕ, zero, suc, ◌+◌, ◌-◌, ◌<◌, ◌≤◌, ◌/◌, ◌%◌, ◌^◌, ◌⊎◌, inl, inr, ℤ, pos, ◌+ℤ◌, ◌-ℤ◌}
use Rattle.std.proofs.Common.{List}
use Rattle.std.proofs.Common.{length, set, replicate, [], ◌∷◌, ◌++◌, FitsSigned, refl, sym, ap, subst, ◌∙◌, arith}
use Rattle.std.proofs.lemmas.Int.{ints}
use Rattle.std.proofs.lemmas.Bool.{cases_eq}
use Rattle.std.specs.Int.{w16}
use Rattle.std.proofs.lemmas.Bool.Decides.{nat_tests}
use Rattle.std.proofs.lemmas.List.{length-set, length-replicate, get_or-set_other, get_or-replicate, get_or_push}
use Rattle.std.proofs.lemmas.List.{get_or_append_left}
use Rattle.std.proofs.lemmas.List.{length_push}
use Rattle.std.proofs.Math.Nat.{mod-one}
use Rattle.sdf_filters.specs.Phases.{tap, in_phase, sum_before, phase_sum, IsSymmetric}
use Rattle.sdf_filters.specs.LowpassValue.{LowpassValue}
use Rattle.sdf_filters.specs.Lowpass.{AreLowpassTaps}
use Rattle.sdf_filters.specs.Differences.{IsDifference, AreDifferences, AreHighpassTaps, AreBandpassTaps, impulse}
use Rattle.sdf_filters.proofs.PhaseSums.{moved_here}

counted_less : (up phase n : ℕ) (x y : ℤ) → in_phase up phase n (x -ℤ y) ≡
    in_phase up phase n x -ℤ in_phase up phase n y
counted_less up phase n x y = grind (arith, ints, nat_tests)

before_less : (a b d : List ℤ) (up phase n : ℕ) → AreDifferences a b d → n ≤ length a →
    sum_before d up phase n ≡ sum_before a up phase n -ℤ sum_before b up phase n
unfolding sum_before
before_less a b d up phase zero are within = omega (arith, ints)
before_less a b d up phase (suc n) are within =
    let ih : sum_before d up phase n ≡ sum_before a up phase n -ℤ sum_before b up phase n =
    before_less a b d up phase n are (omega arith) in
    let term : in_phase up phase n (tap d n) ≡ in_phase up phase n (tap a n) -ℤ in_phase up phase n (tap b n) =
    ap (in_phase up phase n) (are.each n (omega arith)) ∙ counted_less up phase n (tap a n) (tap b n) in
    omega (arith, ints, ih, term)

-- the sum of the differences is the difference of the sums
pub sums_less : (a b d : List ℤ) (up phase : ℕ) → length b ≡ length a → AreDifferences a b d →
    phase_sum d up phase ≡ phase_sum a up phase -ℤ phase_sum b up phase
sums_less a b d up phase same are =
    ap (sum_before d up phase) are.all ∙ (before_less a b d up phase (length a) are (omega arith)
    ∙ ap (λ n. sum_before a up phase (length a) -ℤ sum_before b up phase n) (sym same))

-- an impulse comes to its height
zeros : (count up phase n : ℕ) → n ≤ count → sum_before (replicate count (pos 0)) up phase n ≡ pos 0
unfolding sum_before
zeros count up phase zero within = refl
zeros count up phase (suc n) within =
    let ih : sum_before (replicate count (pos 0)) up phase n ≡ pos 0 = zeros count up phase n (omega arith) in
    let none : tap (replicate count (pos 0)) n ≡ pos 0 = get_or-replicate count n (pos 0) (pos 0) (omega arith) in
    let same : in_phase up phase n (pos 0) ≡ pos 0 = grind arith in
    rw (ih, none, same) refl

pub impulse_sum : (count : ℕ) (height : ℤ) → 0 < count → phase_sum (impulse count height) 1 0 ≡ height
impulse_sum count height some =
    let h : List ℤ = replicate count (pos 0) in
    let long : length h ≡ count = length-replicate count (pos 0) in
    let here : count / 2 < length h = omega arith in
    let none : tap h (count / 2) ≡ pos 0 = get_or-replicate count (count / 2) (pos 0) (pos 0) (omega arith) in
    let same : tap h (count / 2) +ℤ height ≡ height =
    ap (λ z. z +ℤ height) none ∙ (let e : pos 0 +ℤ height ≡ height = omega (arith, ints) in e) in
    let all : phase_sum h 1 0 ≡ pos 0 = ap (sum_before h 1 0) long ∙ zeros count 1 0 count (omega arith) in
    let e : pos 0 +ℤ height ≡ height = omega (arith, ints) in
    ap (λ z. phase_sum (set h (count / 2) z) 1 0) (sym same)
    ∙ (moved_here h 1 0 (count / 2) height here (mod-one (count / 2)) ∙ (ap (λ z. z +ℤ height) all ∙ e))

-- a high-pass stops a constant
pub inverse_sum : (low h : List ℤ) (count : ℕ) (height : ℤ) → 0 < count → length low ≡ count →
    phase_sum low 1 0 ≡ height → AreDifferences (impulse count height) low h → phase_sum h 1 0 ≡ pos 0
inverse_sum low h count height some all sum are =
    let long : length (impulse count height) ≡ count =
    length-set (replicate count (pos 0)) (count / 2) height ∙ length-replicate count (pos 0) in
    let less : phase_sum h 1 0 ≡ phase_sum (impulse count height) 1 0 -ℤ phase_sum low 1 0 =
    sums_less (impulse count height) low h 1 0 (all ∙ sym long) are in
    let top : phase_sum (impulse count height) 1 0 ≡ height = impulse_sum count height some in
    less ∙ (ap (λ z. z -ℤ phase_sum low 1 0) top ∙ (ap (λ z. height -ℤ z) sum ∙
    (let e : height -ℤ height ≡ pos 0 = omega (arith, ints) in e)))

-- and so does a band-pass
pub band_sum : (a b h : List ℤ) (up phase : ℕ) (total : ℤ) → length b ≡ length a → phase_sum a up phase ≡ total →
    phase_sum b up phase ≡ total → AreDifferences a b h → phase_sum h up phase ≡ pos 0
band_sum a b h up phase total same sum sum' are =
    sums_less a b h up phase same are ∙ (ap (λ z. z -ℤ phase_sum b up phase) sum
    ∙ (ap (λ z. total -ℤ z) sum' ∙ (let e : total -ℤ total ≡ pos 0 = omega (arith, ints) in e)))

-- one difference more
pub difference_added : (a b xs : List ℤ) (i : ℕ) (y : ℤ) → length xs ≡ i → IsDifference (tap a i) (tap b i) y →
    ((n : ℕ) → n < i → (tap xs n ≡ tap a n -ℤ tap b n) × FitsSigned w16 (tap xs n)) →
    (n : ℕ) → n < i + 1 → (tap (xs ++ y ∷ []) n ≡ tap a n -ℤ tap b n) × FitsSigned w16 (tap (xs ++ y ∷ []) n)
difference_added a b xs i y long is before n below = go (cases_eq n i)
  where
    go : (n ≡ i) ⊎ (n ≡ i → ⊥) → (tap (xs ++ y ∷ []) n ≡ tap a n -ℤ tap b n) × FitsSigned w16 (tap (xs ++ y ∷ []) n)
    go (inl e) =
        let last : tap (xs ++ y ∷ []) n ≡ y = get_or_push xs y (pos 0) n (long ∙ sym e) in
        subst (λ (z : ℤ). (z ≡ tap a n -ℤ tap b n) × FitsSigned w16 z) (sym last)
        (subst (λ (m : ℕ). (y ≡ tap a m -ℤ tap b m) × FitsSigned w16 y) (sym e) (is.is, is.small))
    go (inr ne) =
        let early : tap (xs ++ y ∷ []) n ≡ tap xs n = get_or_append_left xs (y ∷ []) (pos 0) n (omega arith) in
        subst (λ (z : ℤ). (z ≡ tap a n -ℤ tap b n) × FitsSigned w16 z) (sym early) (before n (omega arith))

-- the same, where s and t are the taps as the code has them, and z is the difference
pub difference_step : (a b xs ys : List ℤ) (i : ℕ) (s t y z : ℤ) → length xs ≡ i → s ≡ tap a i → t ≡ tap b i → z ≡ y →
    IsDifference s t y → ys ≡ xs ++ z ∷ [] →
    ((n : ℕ) → n < i → (tap xs n ≡ tap a n -ℤ tap b n) × FitsSigned w16 (tap xs n)) →
    (length ys ≡ i + 1) × ((n : ℕ) → n < i + 1 → (tap ys n ≡ tap a n -ℤ tap b n) × FitsSigned w16 (tap ys n))
difference_step a b xs ys i s t y z long from taps same is added before =
    let read : IsDifference (tap a i) (tap b i) y =
    subst (λ (m : ℤ). IsDifference m (tap b i) y) from (subst (λ (m : ℤ). IsDifference s m y) taps is) in
    let items : ys ≡ xs ++ y ∷ [] = added ∙ ap (λ m. xs ++ m ∷ []) same in (
      ap length items ∙ (length_push xs y ∙ ap (λ n. n + 1) long),
      subst (λ (v : List ℤ). (n : ℕ) → n < i + 1 → (tap v n ≡ tap a n -ℤ tap b n)
          × FitsSigned w16 (tap v n)) (sym items)
          (difference_added a b xs i y long read before),
    )

-- all differences
pub all_differences : (a b xs : List ℤ) (i : ℕ) → length xs ≡ i → i ≤ length a → length a ≤ i →
    ((n : ℕ) → n < i → (tap xs n ≡ tap a n -ℤ tap b n) × FitsSigned w16 (tap xs n)) → AreDifferences a b xs
all_differences a b xs i long within over each = record {
  all = omega arith;
  each = λ n below. (each n (omega arith)).0;
  small = λ n below. (each n (omega arith)).1;
}

impulse_long : (count : ℕ) (height : ℤ) → length (impulse count height) ≡ count
impulse_long count height =
    length-set (replicate count (pos 0)) (count / 2) height ∙ length-replicate count (pos 0)

-- the middle of an odd number of places is its own mirror image
impulse_symmetric : (count : ℕ) (height : ℤ) → count % 2 ≡ 1 → IsSymmetric (impulse count height)
impulse_symmetric count height odd n known =
    ap (λ l. tap (impulse count height) (l - 1 - n)) (impulse_long count height)
    ∙ go (omega (arith, impulse_long count height)) (cases_eq n (count / 2))
  where
    away : (k : ℕ) → k < count → (k ≡ count / 2 → ⊥) → tap (impulse count height) k ≡ pos 0
    away k below other = get_or-set_other (replicate count (pos 0)) (count / 2) k height (pos 0) other
        ∙ get_or-replicate count k (pos 0) (pos 0) below

    go : n < count → (n ≡ count / 2) ⊎ (n ≡ count / 2 → ⊥) →
        tap (impulse count height) (count - 1 - n) ≡ tap (impulse count height) n
    go below (inl e) = ap (tap (impulse count height)) (omega (arith, e, odd))
    go below (inr other) = away (count - 1 - n) (omega arith) (λ e. other (omega (arith, e, odd)))
        ∙ sym (away n below other)

-- differences of symmetric taps are symmetric
differences_symmetric : (a b d : List ℤ) → length b ≡ length a → AreDifferences a b d → IsSymmetric a → IsSymmetric b →
    IsSymmetric d
differences_symmetric a b d same are first second n known =
    let below : n < length a = omega (arith, are.all) in
    ap (λ l. tap d (l - 1 - n)) are.all
    ∙ (are.each (length a - 1 - n) (omega arith)
    ∙ (ap (λ z. z -ℤ tap b (length a - 1 - n)) (first n below)
    ∙ (ap (λ z. tap a n -ℤ z) (ap (λ l. tap b (l - 1 - n)) (sym same) ∙ second n (omega (arith, same)))
    ∙ sym (are.each n below))))

-- what the taps of a band-pass are, where a and b are the low-passes' as the code has them
pub band_taps : (f g : LowpassValue) (count : ℕ) (wide narrow a b h : List ℤ) → a ≡ wide → b ≡ narrow → g.up ≡ f.up →
    g.shift ≡ f.shift → AreLowpassTaps f count wide → AreLowpassTaps g count narrow → AreDifferences a b h →
    AreBandpassTaps f g count h
band_taps f g count wide narrow a b h is_wide is_narrow same_up same_shift first second are =
    let band : AreDifferences wide narrow h =
    subst (λ (v : List ℤ). AreDifferences v narrow h) is_wide
    (subst (λ (v : List ℤ). AreDifferences a v h) is_narrow are) in
    record {
      all = band.all ∙ first.all;
      wide = wide;
      narrow = narrow;
      wide_is = first;
      narrow_is = second;
      band = band;
      none = λ phase below.
          let sum : phase_sum narrow f.up phase ≡ pos (2 ^ f.shift) =
          subst (λ (n : ℕ). phase_sum narrow n phase ≡ pos (2 ^ f.shift)) same_up
          (second.exact phase (omega (arith, same_up)) ∙ ap (λ n. pos (2 ^ n)) same_shift) in
          band_sum wide narrow h f.up phase (pos (2 ^ f.shift)) (second.all ∙ sym first.all)
          (first.exact phase below) sum band;
      symmetric = λ can. differences_symmetric wide narrow h (second.all ∙ sym first.all) band
          (first.symmetric can) (second.symmetric (subst (λ (n : ℕ). (n % 2 ≡ 0) ⊎ ((count % 2 ≡ 1) ⊎ (0 < g.shift)))
          (sym same_up) (subst (λ (n : ℕ). (f.up % 2 ≡ 0) ⊎ ((count % 2 ≡ 1) ⊎ (0 < n))) (sym same_shift) can)));
    }

-- and those of a high-pass
pub high_taps : (f : LowpassValue) (count : ℕ) (low top a b h : List ℤ) → a ≡ top → b ≡ low →
    top ≡ impulse count (pos (2 ^ f.shift)) → f.up ≡ 1 → count % 2 ≡ 1 → AreLowpassTaps f count low →
    AreDifferences a b h → AreHighpassTaps f count h
high_taps f count low top a b h is_top is_low is_impulse one odd first are =
    let some : 0 < count = omega arith in
    let inverse : AreDifferences (impulse count (pos (2 ^ f.shift))) low h =
    subst (λ (v : List ℤ). AreDifferences v low h) (is_top ∙ is_impulse)
    (subst (λ (v : List ℤ). AreDifferences a v h) is_low are) in
    let sum : phase_sum low 1 0 ≡ pos (2 ^ f.shift) =
    subst (λ (n : ℕ). phase_sum low n 0 ≡ pos (2 ^ f.shift)) one (first.exact 0 (omega (arith, one))) in
    record {
      all = inverse.all ∙ (length-set (replicate count (pos 0)) (count / 2) (pos (2 ^ f.shift))
          ∙ length-replicate count (pos 0));
      low = low;
      low_is = first;
      inverse = inverse;
      none = inverse_sum low h count (pos (2 ^ f.shift)) some first.all sum inverse;
      symmetric = differences_symmetric (impulse count (pos (2 ^ f.shift))) low h
          (first.all ∙ sym (impulse_long count (pos (2 ^ f.shift)))) inverse
          (impulse_symmetric count (pos (2 ^ f.shift)) odd) (first.symmetric (inr (inl odd)));
    }
