-- Taps and their mirror images.
use Rattle.std.proofs.Common.{◌≡◌, ℕ, zero, suc, ◌+◌, ◌-◌, ◌*◌, ◌/◌, ◌%◌, ◌^◌, ◌<◌, ◌≤◌, ◌⊎◌, inl, inr, Bool, true}
use Rattle.std.proofs.Common.{false}
use Rattle.std.proofs.Common.{ℤ, pos, negsuc, ◌+ℤ◌, ◌-ℤ◌, unsigned_abs, List, length, set, refl, sym, ap, ◌∙◌, subst}
use Rattle.std.proofs.Common.{mul-le-mul_right, arith}
use Rattle.std.proofs.Math.Nat.{mul-le-mul_left, mod-one}
use Rattle.std.proofs.Common.{div-add-mod'}
use Rattle.std.proofs.lemmas.Int.{ints}
use Rattle.std.proofs.lemmas.Nat.{mod-mul-add}
use Rattle.std.proofs.lemmas.Bool.{cases_eq, cases_lt}
use Rattle.std.proofs.lemmas.Bool.Decides.{nat_tests}
use Rattle.std.proofs.lemmas.List.{length-set, get_or-set_same, get_or-set_other}
use Rattle.sdf_filters.specs.Phases.{tap, in_phase, sum_before, phase_sum, steps, weight, AreMoved, IsSymmetric, IsEven}
use Rattle.sdf_filters.proofs.PhaseSums.{counted_here, moved_here, moved_elsewhere}

-- ---- the phase of a mirror image

pub mirror_phase : (up many n k phase : ℕ) → n ≡ many * up → k < n → phase < up → k % up ≡ phase →
    (n - 1 - k) % up ≡ up - 1 - phase
mirror_phase up many n k phase long within below is = go (cases_lt (k / up) many)
  where
    split : k / up * up + k % up ≡ k
    split = div-add-mod' k up

    known : (rest : ℕ) → many ≡ k / up + 1 + rest → (n - 1 - k) % up ≡ up - 1 - phase
    known rest all =
        let e : n - 1 - k ≡ rest * up + (up - 1 - phase) = omega (arith, ap (λ m. m * up) all, split, is, long) in
        ap (λ m. m % up) e ∙ mod-mul-add rest up (up - 1 - phase) (omega arith)

    go : (k / up < many) ⊎ (many ≤ k / up) → (n - 1 - k) % up ≡ up - 1 - phase
    go (inl l) = known (many - 1 - k / up) (omega arith)
    go (inr past) =
        let h : many * up ≤ k / up * up = mul-le-mul_right up past in absurd (omega (arith, h, split, long))

-- a tap of the first turns of a phase is not its own mirror image
pub not_own_mirror : (up phase many turns turn n : ℕ) → n ≡ many * up → phase < up →
    (2 * phase + 1 ≡ up → 2 * turns ≤ many) → turn < turns → turn < many →
    n - 1 - (turn * up + phase) ≡ turn * up + phase → ⊥
not_own_mirror up phase many turns turn n long below apart early within same =
    let k : ℕ = turn * up + phase in
    let inside : turn * up + phase < n =
    (let l : turn + 1 ≤ many = omega arith in
    let h : (turn + 1) * up ≤ many * up = mul-le-mul_right up l in omega (arith, long, h)) in
    let is : (turn * up + phase) % up ≡ phase = mod-mul-add turn up phase below in
    let other : (n - 1 - (turn * up + phase)) % up ≡ up - 1 - phase =
    mirror_phase up many n (turn * up + phase) phase long inside below is in
    let middle : 2 * phase + 1 ≡ up = omega (arith, sym (ap (λ m. m % up) same) ∙ other, is) in
    let l : 2 * turn + 2 ≤ many = omega (arith, apart middle) in
    let room : (2 * turn + 2) * up ≤ many * up = mul-le-mul_right up l in
    omega (arith, room, long, same)

-- ---- steps

pub weight_middle : (up phase : ℕ) → 2 * phase + 1 ≡ up → weight up phase ≡ 2
unfolding weight
weight_middle up phase e = grind (arith, nat_tests)

pub weight_outer : (up phase : ℕ) → (2 * phase + 1 ≡ up → ⊥) → weight up phase ≡ 1
unfolding weight
weight_outer up phase ne = grind (arith, nat_tests)

steps_two : (rise : Bool) (s : ℤ) → (s +ℤ steps rise 1) +ℤ steps rise 1 ≡ s +ℤ steps rise 2
steps_two true s = omega (arith, ints)
steps_two false s = omega (arith, ints)

-- what moves a tap and its mirror image by one step
module _ (up phase : ℕ) (rise : Bool) (many : ℕ) (h g f : List ℤ) (k m : ℕ) (long : length h ≡ many * up)
    (within : k < length h) (below : phase < up) (is : k % up ≡ phase) (mirrored : m ≡ length h - 1 - k)
    (apart : m ≡ k → ⊥) (first : g ≡ set h k (tap h k +ℤ steps rise 1))
    (second : f ≡ set g m (tap g m +ℤ steps rise 1)) where
  same_g : length g ≡ length h
  same_g = ap length first ∙ length-set h k (tap h k +ℤ steps rise 1)

  same_f : length f ≡ length h
  same_f = ap length second ∙ (length-set g m (tap g m +ℤ steps rise 1) ∙ same_g)

  other_in : m < length g
  other_in = omega (arith, same_g, mirrored)

  other_is : m % up ≡ up - 1 - phase
  other_is = ap (λ n. n % up) mirrored ∙ mirror_phase up many (length h) k phase long within below is

  first_sum : (q : ℕ) → (k % up ≡ q) ⊎ (k % up ≡ q → ⊥) → phase_sum g up q ≡ phase_sum h up q →
      phase_sum g up q ≡ phase_sum h up q
  first_sum q c e = e

  at_k : tap f k ≡ tap h k +ℤ steps rise 1
  at_k = ap (λ t. tap t k) second ∙ (get_or-set_other g m k (tap g m +ℤ steps rise 1) (pos 0) (λ e. apart (sym e))
      ∙ (ap (λ t. tap t k) first ∙ get_or-set_same h k (tap h k +ℤ steps rise 1) (pos 0) within))

  at_m : tap f m ≡ tap h m +ℤ steps rise 1
  at_m = ap (λ t. tap t m) second ∙ (get_or-set_same g m (tap g m +ℤ steps rise 1) (pos 0) other_in
      ∙ ap (λ z. z +ℤ steps rise 1) (ap (λ t. tap t m) first
      ∙ get_or-set_other h k m (tap h k +ℤ steps rise 1) (pos 0) apart))

  elsewhere : (n : ℕ) → (n ≡ k → ⊥) → (n ≡ m → ⊥) → tap f n ≡ tap h n
  elsewhere n not_k not_m =
      ap (λ t. tap t n) second ∙ (get_or-set_other g m n (tap g m +ℤ steps rise 1) (pos 0) not_m
      ∙ (ap (λ t. tap t n) first ∙ get_or-set_other h k n (tap h k +ℤ steps rise 1) (pos 0) not_k))

  stay_symmetric : IsSymmetric h → IsSymmetric f
  stay_symmetric s n known =
      subst (λ l. tap f (l - 1 - n) ≡ tap f n) (sym same_f)
      (go (omega (arith, same_f)) (cases_eq n k) (cases_eq n m))
    where
      go : n < length h → (n ≡ k) ⊎ (n ≡ k → ⊥) → (n ≡ m) ⊎ (n ≡ m → ⊥) → tap f (length h - 1 - n) ≡ tap f n
      go l (inl e) c =
          let to : length h - 1 - n ≡ m = ap (λ x. length h - 1 - x) e ∙ sym mirrored in
          ap (tap f) to ∙ (at_m ∙ (ap (λ z. z +ℤ steps rise 1)
          (ap (tap h) mirrored ∙ s k within) ∙ (sym at_k ∙ ap (tap f) (sym e))))
      go l (inr not_k) (inl e) =
          let to : length h - 1 - n ≡ k = omega (arith, mirrored, e) in
          ap (tap f) to ∙ (at_k ∙ (ap (λ z. z +ℤ steps rise 1)
          (sym (ap (tap h) mirrored ∙ s k within)) ∙ (sym at_m ∙ ap (tap f) (sym e))))
      go l (inr not_k) (inr not_m) =
          elsewhere (length h - 1 - n) (λ e. not_m (omega (arith, mirrored, e)))
          (λ e. not_k (omega (arith, mirrored, e)))
          ∙ (s n l ∙ sym (elsewhere n not_k not_m))

  pub pair_moved : AreMoved up phase rise (weight up phase) h f
  pair_moved = record {
    all = same_f;
    sum = go (cases_eq (2 * phase + 1) up);
    others = λ q other across. ap (λ t. phase_sum t up q) second
        ∙ (moved_elsewhere g up q m (tap g m +ℤ steps rise 1) (λ e. across (omega (arith, other_is, e)))
        ∙ (ap (λ t. phase_sum t up q) first
        ∙ moved_elsewhere h up q k (tap h k +ℤ steps rise 1) (λ e. other (sym e ∙ is))));
    symmetric = stay_symmetric;
  }
    where
      near : phase_sum g up phase ≡ phase_sum h up phase +ℤ steps rise 1
      near = ap (λ t. phase_sum t up phase) first ∙ moved_here h up phase k (steps rise 1) within is

      go : (2 * phase + 1 ≡ up) ⊎ (2 * phase + 1 ≡ up → ⊥) →
          phase_sum f up phase ≡ phase_sum h up phase +ℤ steps rise (weight up phase)
      go (inl middle) =
          ap (λ t. phase_sum t up phase) second
          ∙ (moved_here g up phase m (steps rise 1) other_in (omega (arith, other_is, middle))
          ∙ (ap (λ z. z +ℤ steps rise 1) near ∙ (steps_two rise (phase_sum h up phase)
          ∙ ap (λ n. phase_sum h up phase +ℤ steps rise n) (sym (weight_middle up phase middle)))))
      go (inr outer) =
          ap (λ t. phase_sum t up phase) second
          ∙ (moved_elsewhere g up phase m (tap g m +ℤ steps rise 1) (λ e. outer (omega (arith, other_is, e)))
          ∙ (near ∙ ap (λ n. phase_sum h up phase +ℤ steps rise n) (sym (weight_outer up phase outer))))

-- the middle tap is its own mirror image
pub middle_moved : (up phase : ℕ) (rise : Bool) (h g : List ℤ) (k : ℕ) → k < length h → length h - 1 - k ≡ k →
    k % up ≡ phase → g ≡ set h k (tap h k +ℤ steps rise 1) → AreMoved up phase rise 1 h g
middle_moved up phase rise h g k within own is moved = record {
  all = same;
  sum = ap (λ t. phase_sum t up phase) moved ∙ moved_here h up phase k (steps rise 1) within is;
  others = λ q other across. ap (λ t. phase_sum t up q) moved
      ∙ moved_elsewhere h up q k (tap h k +ℤ steps rise 1) (λ e. other (sym e ∙ is));
  symmetric = λ s n known. subst (λ l. tap g (l - 1 - n) ≡ tap g n) (sym same)
      (go s n (omega (arith, same)) (cases_eq n k));
}
  where
    same : length g ≡ length h
    same = ap length moved ∙ length-set h k (tap h k +ℤ steps rise 1)

    elsewhere : (n : ℕ) → (n ≡ k → ⊥) → tap g n ≡ tap h n
    elsewhere n other = ap (λ t. tap t n) moved ∙ get_or-set_other h k n (tap h k +ℤ steps rise 1) (pos 0) other

    go : IsSymmetric h → (n : ℕ) → n < length h → (n ≡ k) ⊎ (n ≡ k → ⊥) → tap g (length h - 1 - n) ≡ tap g n
    go s n l (inl e) = ap (tap g) (ap (λ x. length h - 1 - x) e ∙ (own ∙ sym e))
    go s n l (inr other) = elsewhere (length h - 1 - n) (λ e. other (omega (arith, own, e)))
        ∙ (s n l ∙ sym (elsewhere n other))

-- ---- the sums of mirror images

-- the sum of the first n values
sum_of : (ℕ → ℤ) → ℕ → ℤ
sum_of f zero = pos 0
sum_of f (suc n) = sum_of f n +ℤ f n

sum_same : (f g : ℕ → ℤ) (n : ℕ) → ((i : ℕ) → i < n → f i ≡ g i) → sum_of f n ≡ sum_of g n
unfolding sum_of
sum_same f g zero same = refl
sum_same f g (suc n) same =
    let ih : sum_of f n ≡ sum_of g n = sum_same f g n (λ i l. same i (omega arith)) in
    ap (λ z. z +ℤ f n) ih ∙ ap (λ z. sum_of g n +ℤ z) (same n (omega arith))

front : (f : ℕ → ℤ) (n : ℕ) → sum_of f (suc n) ≡ f 0 +ℤ sum_of (λ i. f (suc i)) n
unfolding sum_of
front f zero = omega (arith, ints)
front f (suc n) =
    let ih : sum_of f (suc n) ≡ f 0 +ℤ sum_of (λ i. f (suc i)) n = front f n in
    ap (λ z. z +ℤ f (suc n)) ih ∙ (let e : (f 0 +ℤ sum_of (λ i. f (suc i)) n) +ℤ f (suc n)
    ≡ f 0 +ℤ (sum_of (λ i. f (suc i)) n +ℤ f (suc n)) = omega (arith, ints) in e)

back : (f : ℕ → ℤ) (n : ℕ) → sum_of (λ i. f (n - 1 - i)) n ≡ sum_of f n
unfolding sum_of
back f zero = refl
back f (suc n) =
    let top : suc n - 1 - 0 ≡ n = omega arith in
    let rest : sum_of (λ i. f (suc n - 1 - suc i)) n ≡ sum_of (λ i. f (n - 1 - i)) n =
    sum_same (λ i. f (suc n - 1 - suc i)) (λ i. f (n - 1 - i)) n
    (λ i l. ap f (let e : suc n - 1 - suc i ≡ n - 1 - i = omega arith in e)) in
    front (λ i. f (suc n - 1 - i)) n ∙ (ap (λ z. z +ℤ sum_of (λ i. f (suc n - 1 - suc i)) n) (ap f top)
    ∙ (ap (λ z. f n +ℤ z) (rest ∙ back f n)
    ∙ (let e : f n +ℤ sum_of f n ≡ sum_of f n +ℤ f n = omega (arith, ints) in e)))

sum_before_is : (h : List ℤ) (up phase n : ℕ) →
    sum_before h up phase n ≡ sum_of (λ i. in_phase up phase i (tap h i)) n
unfolding sum_of sum_before
sum_before_is h up phase zero = refl
sum_before_is h up phase (suc n) = ap (λ z. z +ℤ in_phase up phase n (tap h n)) (sum_before_is h up phase n)

counted_none : (up phase n : ℕ) (x : ℤ) → (n % up ≡ phase → ⊥) → in_phase up phase n x ≡ pos 0
counted_none up phase n x other = grind (arith, nat_tests)

-- a phase of symmetric taps comes to as much as its mirror image
pub mirror_sum : (h : List ℤ) (up phase many : ℕ) → length h ≡ many * up → phase < up → IsSymmetric h →
    phase_sum h up (up - 1 - phase) ≡ phase_sum h up phase
mirror_sum h up phase many long below s =
    sum_before_is h up (up - 1 - phase) (length h)
    ∙ (sum_same (λ i. in_phase up (up - 1 - phase) i (tap h i))
    (λ i. in_phase up phase (length h - 1 - i) (tap h (length h - 1 - i))) (length h)
    (λ i l. each i l (cases_eq (i % up) (up - 1 - phase)))
    ∙ (back (λ i. in_phase up phase i (tap h i)) (length h) ∙ sym (sum_before_is h up phase (length h))))
  where
    each : (i : ℕ) → i < length h → (i % up ≡ up - 1 - phase) ⊎ (i % up ≡ up - 1 - phase → ⊥) →
        in_phase up (up - 1 - phase) i (tap h i) ≡ in_phase up phase (length h - 1 - i) (tap h (length h - 1 - i))
    each i l (inl e) =
        let other : (length h - 1 - i) % up ≡ up - 1 - (up - 1 - phase) =
        mirror_phase up many (length h) i (up - 1 - phase) long l (omega arith) e in
        let back_to : (length h - 1 - i) % up ≡ phase = omega (arith, other) in
        counted_here up (up - 1 - phase) i (tap h i) e
        ∙ (sym (s i l) ∙ sym (counted_here up phase (length h - 1 - i) (tap h (length h - 1 - i)) back_to))
    each i l (inr ne) =
        counted_none up (up - 1 - phase) i (tap h i) ne
        ∙ sym (counted_none up phase (length h - 1 - i) (tap h (length h - 1 - i))
        (λ e. ne (ap (λ n. n % up) (let t : i ≡ length h - 1 - (length h - 1 - i) = omega arith in t)
        ∙ mirror_phase up many (length h) (length h - 1 - i) phase long (omega arith) below e)))

-- whole phases have as many taps each
pub in_phases : (up n : ℕ) → n % up ≡ 0 → n ≡ n / up * up
in_phases up n whole = omega (arith, div-add-mod' n up)

-- the middle tap is one of the phase around the middle
pub middle_phase : (up many n : ℕ) → up % 2 ≡ 1 → n % 2 ≡ 1 → n ≡ many * up → n / 2 % up ≡ up / 2
middle_phase up many n odd middle long =
    let j : up ≡ 2 * (up / 2) + 1 = omega arith in
    let e : n / 2 ≡ many / 2 * up + up / 2 = go (many / 2) (parity (many % 2) refl) in
    ap (λ m. m % up) e ∙ mod-mul-add (many / 2) up (up / 2) (omega arith)
  where
    parity : (r : ℕ) → many % 2 ≡ r → many ≡ 2 * (many / 2) + 1
    parity zero even =
        let e : many ≡ 2 * (many / 2) = omega arith in
        let twice : n ≡ 2 * (many / 2 * up) = omega (arith, long, ap (λ m. m * up) e) in absurd (omega (arith, twice))
    parity (suc r) is = omega (arith, is)

    go : (k : ℕ) → many ≡ 2 * k + 1 → n / 2 ≡ k * up + up / 2
    go k e = omega (arith, long, ap (λ m. m * up) e, odd)

-- what is left of some steps where the middle one of an odd number of taps has moved
pub few_middle : (times many : ℕ) → many % 2 ≡ 1 → times / many + times % many % 2 ≤ times
few_middle times many odd =
    let split : times / many * many + times % many ≡ times = div-add-mod' times many in
    let l : times / many * 1 ≤ times / many * many =
    mul-le-mul_left (times / many) (let h : 1 ≤ many = omega arith in h) in
    omega (arith, split, l)

pub even_left : (times many : ℕ) → many % 2 ≡ 1 → (times - (times / many + times % many % 2)) % 2 ≡ 0
even_left times many odd =
    let split : times / many * many + times % many ≡ times = div-add-mod' times many in
    let e : many ≡ 2 * (many / 2) + 1 = omega arith in
    let twice : times / many * many ≡ 2 * (times / many * (many / 2)) + times / many =
    ap (λ m. times / many * m) e ∙ omega arith in
    omega (arith, split, twice)

pub all_alone : (times many : ℕ) → many ≡ 1 → times / many + times % many % 2 ≡ times
all_alone times many one =
    let split : times / many * many + times % many ≡ times = div-add-mod' times many in
    let none : times % many ≡ 0 = ap (λ m. times % m) one ∙ mod-one times in
    let all : times / many * many ≡ times / many = ap (λ m. times / many * m) one ∙ omega arith in
    omega (arith, split, none, all)

-- the sum of one phase more before the middle is the total
pub one_phase_more : (h g : List ℤ) (up phase : ℕ) (total : ℤ) → 2 * phase + 1 < up → phase_sum g up phase ≡ total →
    ((q : ℕ) → (q ≡ phase → ⊥) → (q + phase + 1 ≡ up → ⊥) → phase_sum g up q ≡ phase_sum h up q) →
    ((q : ℕ) → q < phase → phase_sum h up q ≡ total) → (q : ℕ) → q < phase + 1 → phase_sum g up q ≡ total
one_phase_more h g up phase total outer exact others before q below = go (cases_eq q phase)
  where
    go : (q ≡ phase) ⊎ (q ≡ phase → ⊥) → phase_sum g up q ≡ total
    go (inl e) = ap (phase_sum g up) e ∙ exact
    go (inr ne) = others q ne (λ e. omega arith) ∙ before q (omega arith)

-- and so are those of the phases behind it
pub outer_exact : (h : List ℤ) (up many : ℕ) (total : ℤ) → length h ≡ many * up → IsSymmetric h →
    ((q : ℕ) → q < up / 2 → phase_sum h up q ≡ total) → (q : ℕ) → q < up → (2 * q + 1 ≡ up → ⊥) →
    phase_sum h up q ≡ total
outer_exact h up many total long s before q below outer = go (cases_lt q (up / 2))
  where
    go : (q < up / 2) ⊎ (up / 2 ≤ q) → phase_sum h up q ≡ total
    go (inl l) = before q l
    go (inr end_after) =
        let e : q ≡ up - 1 - (up - 1 - q) = omega arith in
        ap (phase_sum h up) e ∙ (mirror_sum h up (up - 1 - q) many long (omega arith) s
        ∙ before (up - 1 - q) (omega arith))

-- whole phases, an odd number of them with an odd number of taps each, and with an even number
pub odd_product : (up many n : ℕ) → up % 2 ≡ 1 → many % 2 ≡ 1 → n ≡ many * up → n % 2 ≡ 1
odd_product up many n odd odd' long =
    let e : many ≡ 2 * (many / 2) + 1 = omega arith in
    let twice : many * up ≡ 2 * (many / 2 * up) + up = ap (λ m. m * up) e ∙ omega arith in
    omega (arith, twice, long)

pub even_product : (up many n : ℕ) → many % 2 ≡ 0 → n ≡ many * up → n % 2 ≡ 0
even_product up many n even long =
    let e : many ≡ 2 * (many / 2) = omega arith in
    let twice : many * up ≡ 2 * (many / 2 * up) = ap (λ m. m * up) e ∙ omega arith in
    omega (arith, twice, long)

-- ---- even sums

split_sum : (f : ℕ → ℤ) (m n : ℕ) → sum_of f (m + n) ≡ sum_of f m +ℤ sum_of (λ i. f (m + i)) n
unfolding sum_of
split_sum f m zero =
    let e : m + zero ≡ m = omega arith in ap (sum_of f) e
    ∙ (let z : sum_of f m ≡ sum_of f m +ℤ pos 0 = omega (arith, ints) in z)
split_sum f m (suc n) =
    let e : m + suc n ≡ suc (m + n) = omega arith in
    ap (sum_of f) e ∙ (ap (λ z. z +ℤ f (m + n)) (split_sum f m n)
    ∙ (let z : (sum_of f m +ℤ sum_of (λ i. f (m + i)) n) +ℤ f (m + n)
    ≡ sum_of f m +ℤ (sum_of (λ i. f (m + i)) n +ℤ f (m + n)) = omega (arith, ints) in z))

-- where both halves are alike
halves : (f : ℕ → ℤ) (j : ℕ) → ((i : ℕ) → i < j → f (j + (j - 1 - i)) ≡ f i) →
    sum_of f (j + j) ≡ sum_of f j +ℤ sum_of f j
halves f j alike =
    split_sum f j j ∙ ap (λ z. sum_of f j +ℤ z)
    (sym (back (λ i. f (j + i)) j) ∙ sum_same (λ i. f (j + (j - 1 - i))) f j alike)

-- the phase around the middle comes to an even number where it has an even number of taps
even_sum : (h : List ℤ) (up phase many : ℕ) → length h ≡ many * up → 2 * phase + 1 ≡ up → many % 2 ≡ 0 →
    IsSymmetric h → IsEven (phase_sum h up phase)
even_sum h up phase many long middle even s = (
  sum_of f j,
  sum_before_is h up phase (length h) ∙ (ap (sum_of f) two ∙ halves f j alike),
)
  where
    j : ℕ
    j = length h / 2

    f : ℕ → ℤ
    f i = in_phase up phase i (tap h i)

    two : length h ≡ length h / 2 + length h / 2
    two = omega (arith, even_product up many (length h) even long)

    alike : (i : ℕ) → i < length h / 2 → f (length h / 2 + (length h / 2 - 1 - i)) ≡ f i
    alike i l =
        let to : length h / 2 + (length h / 2 - 1 - i) ≡ length h - 1 - i = omega (arith, two) in
        ap f to ∙ each i (omega (arith, two)) (cases_eq (i % up) phase)
      where
        each : (i : ℕ) → i < length h → (i % up ≡ phase) ⊎ (i % up ≡ phase → ⊥) → f (length h - 1 - i) ≡ f i
        each i l (inl e) =
            let other : (length h - 1 - i) % up ≡ up - 1 - phase =
            mirror_phase up many (length h) i phase long l (omega arith) e in
            let same : (length h - 1 - i) % up ≡ phase = omega (arith, other) in
            counted_here up phase (length h - 1 - i) (tap h (length h - 1 - i)) same
            ∙ (s i l ∙ sym (counted_here up phase i (tap h i) e))
        each i l (inr ne) =
            counted_none up phase (length h - 1 - i) (tap h (length h - 1 - i))
            (λ e. ne (let back_to : i ≡ length h - 1 - (length h - 1 - i) = omega arith in
            let there : (length h - 1 - (length h - 1 - i)) % up ≡ up - 1 - phase =
            mirror_phase up many (length h) (length h - 1 - i) phase long (omega arith) (omega arith) e in
            let here : i % up ≡ up - 1 - phase = ap (λ n. n % up) back_to ∙ there in omega (arith, here)))
            ∙ sym (counted_none up phase i (tap h i) ne)

twice_abs : (z : ℤ) → unsigned_abs (z +ℤ z) % 2 ≡ 0
twice_abs (pos n) = omega (arith, ints)
twice_abs (negsuc n) = omega (arith, ints)

-- and so an even number of steps leads from there to an even total
pub even_times : (h : List ℤ) (up phase many : ℕ) (total s t : ℤ) (times : ℕ) → length h ≡ many * up →
    2 * phase + 1 ≡ up → many % 2 ≡ 0 → IsSymmetric h → s ≡ phase_sum h up phase → t ≡ total →
    times ≡ unsigned_abs (t -ℤ s) → (length h % 2 ≡ 1) ⊎ IsEven total → times % 2 ≡ 0
even_times h up phase many total s t times long middle even symmetric is_sum is_total many_are (inl odd) =
    absurd (omega (arith, odd, even_product up many (length h) even long))
even_times h up phase many total s t times long middle even symmetric is_sum is_total many_are (inr twice) =
    let sum : IsEven (phase_sum h up phase) = even_sum h up phase many long middle even symmetric in
    let from : s ≡ sum.0 +ℤ sum.0 = is_sum ∙ sum.1 in
    let to : t ≡ twice.0 +ℤ twice.0 = is_total ∙ twice.1 in
    let e : t -ℤ s ≡ (twice.0 -ℤ sum.0) +ℤ (twice.0 -ℤ sum.0) = omega (arith, ints, from, to) in
    ap (λ n. n % 2) many_are ∙ (ap (λ z. unsigned_abs z % 2) e ∙ twice_abs (twice.0 -ℤ sum.0))

-- a power of two above the first is even
twice_power : (shift : ℕ) → 0 < shift → IsEven (pos (2 ^ shift))
twice_power zero some = absurd (omega arith)
twice_power (suc k) some = (pos (2 ^ k), (let e : 2 ^ suc k ≡ 2 ^ k + 2 ^ k = omega arith in ap pos e))

pub can_be : (up count shift n : ℕ) (total : ℤ) → n ≡ count → total ≡ pos (2 ^ shift) →
    (up % 2 ≡ 0) ⊎ ((count % 2 ≡ 1) ⊎ (0 < shift)) → (up % 2 ≡ 0) ⊎ ((n % 2 ≡ 1) ⊎ IsEven total)
can_be up count shift n total same is (inl even) = inl even
can_be up count shift n total same is (inr (inl odd)) = inr (inl (ap (λ m. m % 2) same ∙ odd))
can_be up count shift n total same is (inr (inr some)) = inr (inr (subst IsEven (sym is) (twice_power shift some)))
