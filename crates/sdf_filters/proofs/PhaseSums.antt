-- What the taps of a phase come to where one tap moves.
use Rattle.std.proofs.Common.{◌≡◌, ℕ, zero, suc, ◌+◌, ◌*◌, ◌<◌, ◌≤◌, ◌%◌, ◌⊎◌, inl, inr, Bool, true, false}
use Rattle.std.proofs.Common.{ℤ, pos, negsuc, ◌+ℤ◌, ◌-ℤ◌, unsigned_abs, FitsSigned, List, length, set, refl}
use Rattle.std.proofs.Common.{sym, ap, ◌∙◌, subst, arith}
use Rattle.std.specs.Prelude.{int_lt}
use Rattle.std.specs.Int.{w16}
use Rattle.std.proofs.lemmas.Int.{ints}
use Rattle.std.proofs.lemmas.Bool.{cases_eq}
use Rattle.std.proofs.lemmas.Bool.Decides.{nat_tests}
use Rattle.std.proofs.lemmas.List.{length-set, get_or-set_same, get_or-set_other}
use Rattle.sdf_filters.specs.Phases.{tap, in_phase, sum_before, phase_sum, steps, has_16_bits, AreMoved}
use Rattle.sdf_filters.specs.Phases.{IsSumMoved}

-- a loop's start and step
pub sum_before-zero : (h : List ℤ) (up phase : ℕ) → sum_before h up phase zero ≡ pos 0
unfolding sum_before
sum_before-zero h up phase = refl

pub sum_before_more : (h : List ℤ) (up phase n : ℕ) →
    sum_before h up phase (n + 1) ≡ sum_before h up phase n +ℤ in_phase up phase n (tap h n)
unfolding sum_before
sum_before_more h up phase n = let e : n + 1 ≡ suc n = omega arith in rw e refl

pub counted_other : (up phase n : ℕ) (x y : ℤ) → (n % up ≡ phase → ⊥) → in_phase up phase n x ≡ in_phase up phase n y
counted_other up phase n x y other = grind (arith, nat_tests)

pub counted_here : (up phase n : ℕ) (x : ℤ) → n % up ≡ phase → in_phase up phase n x ≡ x
counted_here up phase n x here = grind (arith, nat_tests)

-- a tap at a later place
before : (h : List ℤ) (up phase k : ℕ) (x : ℤ) (n : ℕ) → n ≤ k →
    sum_before (set h k x) up phase n ≡ sum_before h up phase n
unfolding sum_before
before h up phase k x zero early = refl
before h up phase k x (suc n) early =
    let ih : sum_before (set h k x) up phase n ≡ sum_before h up phase n = before h up phase k x n (omega arith) in
    let same : tap (set h k x) n ≡ tap h n = get_or-set_other h k n x (pos 0) (λ e. omega arith) in
    rw (ih, same) refl

-- a tap of another phase
elsewhere : (h : List ℤ) (up phase k : ℕ) (x : ℤ) (n : ℕ) → (k % up ≡ phase → ⊥) →
    sum_before (set h k x) up phase n ≡ sum_before h up phase n
unfolding sum_before
elsewhere h up phase k x zero other = refl
elsewhere h up phase k x (suc n) other =
    let ih : sum_before (set h k x) up phase n ≡ sum_before h up phase n = elsewhere h up phase k x n other in
    let term : in_phase up phase n (tap (set h k x) n) ≡ in_phase up phase n (tap h n) = go n (cases_eq n k) in
    rw (ih, term) refl
  where
    go : (n : ℕ) → (n ≡ k) ⊎ (n ≡ k → ⊥) → in_phase up phase n (tap (set h k x) n) ≡ in_phase up phase n (tap h n)
    go n (inl e) = counted_other up phase n (tap (set h k x) n) (tap h n) (λ is. other (ap (λ m. m % up) (sym e) ∙ is))
    go n (inr ne) = ap (in_phase up phase n) (get_or-set_other h k n x (pos 0) ne)

-- a tap of the phase, before place n
here : (h : List ℤ) (up phase k : ℕ) (d : ℤ) (n : ℕ) → k < length h → k % up ≡ phase → k < n →
    sum_before (set h k (tap h k +ℤ d)) up phase n ≡ sum_before h up phase n +ℤ d
unfolding sum_before
here h up phase k d zero within is past = absurd (omega arith)
here h up phase k d (suc n) within is past = go (cases_eq n k) (λ l. here h up phase k d n within is l)
  where
    go : (n ≡ k) ⊎ (n ≡ k → ⊥) →
        (k < n → sum_before (set h k (tap h k +ℤ d)) up phase n ≡ sum_before h up phase n +ℤ d) →
        sum_before (set h k (tap h k +ℤ d)) up phase (suc n) ≡ sum_before h up phase (suc n) +ℤ d
    go (inl e) earlier =
        let first : sum_before (set h k (tap h k +ℤ d)) up phase n ≡ sum_before h up phase n =
        before h up phase k (tap h k +ℤ d) n (omega arith) in
        let place : n % up ≡ phase = ap (λ m. m % up) e ∙ is in
        let old : in_phase up phase n (tap h n) ≡ tap h n = counted_here up phase n (tap h n) place in
        let new : in_phase up phase n (tap (set h k (tap h k +ℤ d)) n) ≡ tap (set h k (tap h k +ℤ d)) n =
        counted_here up phase n (tap (set h k (tap h k +ℤ d)) n) place in
        let moved : tap (set h k (tap h k +ℤ d)) n ≡ tap h n +ℤ d =
        ap (tap (set h k (tap h k +ℤ d))) e ∙ (get_or-set_same h k (tap h k +ℤ d) (pos 0) within
        ∙ ap (λ m. tap h m +ℤ d) (sym e)) in
        rw (first, new, moved, old) (omega (arith, ints))
    go (inr ne) earlier =
        let ih : sum_before (set h k (tap h k +ℤ d)) up phase n ≡ sum_before h up phase n +ℤ d =
        earlier (omega arith) in
        let same : tap (set h k (tap h k +ℤ d)) n ≡ tap h n = get_or-set_other h k n (tap h k +ℤ d) (pos 0) ne in
        rw (ih, same) (omega (arith, ints))

-- a tap that moves changes the sum of its phase by as much, and no other
pub moved_here : (h : List ℤ) (up phase k : ℕ) (d : ℤ) → k < length h → k % up ≡ phase →
    phase_sum (set h k (tap h k +ℤ d)) up phase ≡ phase_sum h up phase +ℤ d
moved_here h up phase k d within is =
    ap (sum_before (set h k (tap h k +ℤ d)) up phase) (length-set h k (tap h k +ℤ d))
    ∙ here h up phase k d (length h) within is within

pub moved_elsewhere : (h : List ℤ) (up phase k : ℕ) (x : ℤ) → (k % up ≡ phase → ⊥) →
    phase_sum (set h k x) up phase ≡ phase_sum h up phase
moved_elsewhere h up phase k x other =
    ap (sum_before (set h k x) up phase) (length-set h k x) ∙ elsewhere h up phase k x (length h) other

pub steps_none : (rise : Bool) (s : ℤ) → s +ℤ steps rise 0 ≡ s
steps_none true s = omega (arith, ints)
steps_none false s = omega (arith, ints)

pub steps_more : (rise : Bool) (s : ℤ) (m n : ℕ) → (s +ℤ steps rise m) +ℤ steps rise n ≡ s +ℤ steps rise (m + n)
steps_more true s m n = omega (arith, ints)
steps_more false s m n = omega (arith, ints)

-- no step, and some after others
pub moved_none : (up phase : ℕ) (rise : Bool) (h : List ℤ) → AreMoved up phase rise 0 h h
moved_none up phase rise h = record {
  all = refl;
  sum = sym (steps_none rise (phase_sum h up phase));
  others = λ q other apart. refl;
  symmetric = λ s. s;
}

pub moved_more : (up phase : ℕ) (rise : Bool) (m n all : ℕ) → m + n ≡ all → (f g h : List ℤ) →
    AreMoved up phase rise m f g → AreMoved up phase rise n g h → AreMoved up phase rise all f h
moved_more up phase rise m n all e f g h before after = record {
  all = after.all ∙ before.all;
  sum = after.sum ∙ (ap (λ z. z +ℤ steps rise n) before.sum
      ∙ (steps_more rise (phase_sum f up phase) m n ∙ ap (λ k. phase_sum f up phase +ℤ steps rise k) e));
  others = λ q other apart. after.others q other apart ∙ before.others q other apart;
  symmetric = λ s. after.symmetric (before.symmetric s);
}

-- a loop of steps with one weight: none, and one more
pub moved_start : (up phase w : ℕ) (rise : Bool) (h : List ℤ) → AreMoved up phase rise (w * 0) h h
moved_start up phase w rise h =
    let e : 0 ≡ w * 0 = omega arith in subst (λ n. AreMoved up phase rise n h h) e (moved_none up phase rise h)

pub moved_step : (up phase w : ℕ) (rise : Bool) (n : ℕ) (f g h : List ℤ) → AreMoved up phase rise (w * n) f g →
    AreMoved up phase rise w g h → AreMoved up phase rise (w * (n + 1)) f h
moved_step up phase w rise n f g h before after =
    moved_more up phase rise (w * n) w (w * (n + 1)) (omega arith) f g h before after

-- of one tap alone
pub one_moved : (up phase : ℕ) (rise : Bool) (h g : List ℤ) (k : ℕ) → k < length h → k % up ≡ phase →
    g ≡ set h k (tap h k +ℤ steps rise 1) → IsSumMoved up phase rise 1 h g
one_moved up phase rise h g k within is e = record {
  sum = ap (λ t. phase_sum t up phase) e ∙ moved_here h up phase k (steps rise 1) within is;
  others = λ q other. ap (λ t. phase_sum t up q) e
      ∙ moved_elsewhere h up q k (tap h k +ℤ steps rise 1) (λ same. other (sym same ∙ is));
}

-- in the phase around the middle no other sum has changed
pub sum_moved : (up phase : ℕ) (rise : Bool) (times : ℕ) (h g : List ℤ) → 2 * phase + 1 ≡ up →
    AreMoved up phase rise times h g → IsSumMoved up phase rise times h g
sum_moved up phase rise times h g middle moved = record {
  sum = moved.sum;
  others = λ q other. moved.others q other (λ e. other (omega arith));
}

pub sum_moved_more : (up phase : ℕ) (rise : Bool) (m n all : ℕ) → m + n ≡ all → (f g h : List ℤ) →
    IsSumMoved up phase rise m f g → IsSumMoved up phase rise n g h → IsSumMoved up phase rise all f h
sum_moved_more up phase rise m n all e f g h before after = record {
  sum = after.sum ∙ (ap (λ z. z +ℤ steps rise n) before.sum
      ∙ (steps_more rise (phase_sum f up phase) m n ∙ ap (λ k. phase_sum f up phase +ℤ steps rise k) e));
  others = λ q other. after.others q other ∙ before.others q other;
}

-- as many steps as lack lead to the total
pub steps_reach : (rise : Bool) (s total : ℤ) → int_lt s total ≡ rise →
    s +ℤ steps rise (unsigned_abs (total -ℤ s)) ≡ total
steps_reach true s total e = grind (arith, ints)
steps_reach false s total e = grind (arith, ints)

-- where s and t are the sum and the total as the code has them
pub reached : (before after sum total s t : ℤ) (times : ℕ) → s ≡ sum → t ≡ total → sum ≡ before →
    times ≡ unsigned_abs (t -ℤ s) → after ≡ before +ℤ steps (int_lt s t) times → after ≡ total
reached before after sum total s t times is_sum is_total is_before many moves =
    let start : s ≡ before = is_sum ∙ is_before in
    moves ∙ (ap (λ z. z +ℤ steps (int_lt s t) times) (sym start)
    ∙ (ap (λ k. s +ℤ steps (int_lt s t) k) many ∙ (steps_reach (int_lt s t) s t refl ∙ is_total)))

-- the two answers of the test of a tap
pub fits_16 : (z : ℤ) → has_16_bits z ≡ true → FitsSigned w16 z
fits_16 (pos n) e = let l : n < 32768 = grind (arith, nat_tests) in record { sfits = omega arith }
fits_16 (negsuc n) e = let l : n < 32768 = grind (arith, nat_tests) in record { sfits = omega arith }

pub past_16 : (z : ℤ) → has_16_bits z ≡ false → 32768 ≤ unsigned_abs z
past_16 (pos n) e = let l : 32768 ≤ n = grind (arith, nat_tests) in l
past_16 (negsuc n) e = let l : 32768 ≤ n = grind (arith, nat_tests) in omega arith
