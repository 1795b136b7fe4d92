-- Tests of sizes by a division, in place of a product that could wrap.
use Rattle.std.proofs.Common.{◌≡◌, ℕ, ◌+◌, ◌-◌, ◌*◌, ◌/◌, ◌≤◌, ◌<◌, nat_lt, sym, ap, ◌∙◌, inl, inr, ◌⊎◌, arith}
use Rattle.std.proofs.Math.Nat.{mul_assoc, mul-div_left, mul-le-mul_left, mul-le-mul_right, div-mul-le_self}
use Rattle.std.proofs.lemmas.Nat.{div_below, le-div}
use Rattle.std.proofs.lemmas.Bool.{cases_lt, lt-ltb, le-ltb}
use Rattle.sdf_limits.specs.declared.TheConstants.{MAX_PERIOD, MAX_RATE}

-- p is above n / k exactly where p * k is above n
pub lt_divided : (n k p : ℕ) → 0 < k → nat_lt (n / k) p ≡ nat_lt n (p * k)
lt_divided n k p some = go (cases_lt n (p * k))
  where
    go : (n < p * k) ⊎ (p * k ≤ n) → nat_lt (n / k) p ≡ nat_lt n (p * k)
    go (inl l) = lt-ltb (n / k) p (div_below n k p some l) ∙ sym (lt-ltb n (p * k) l)
    go (inr h) = le-ltb (n / k) p (le-div p n k some h) ∙ sym (le-ltb n (p * k) h)

-- 4,294,967,259 is odd
lt_doubled : (x : ℕ) → nat_lt 2147483629 x ≡ nat_lt 4294967259 (2 * x)
lt_doubled x = go (cases_lt 2147483629 x)
  where
    go : (2147483629 < x) ⊎ (x ≤ 2147483629) → nat_lt 2147483629 x ≡ nat_lt 4294967259 (2 * x)
    go (inl l) = lt-ltb 2147483629 x l ∙ sym (lt-ltb 4294967259 (2 * x) (omega arith))
    go (inr h) = le-ltb 2147483629 x h ∙ sym (le-ltb 4294967259 (2 * x) (omega arith))

-- the samples of so many periods pass the greatest data size
pub data_too_long : (periods made outputs : ℕ) → 0 < made * outputs →
    nat_lt (2147483629 / (made * outputs)) periods ≡ nat_lt 4294967259 (2 * (periods * made * outputs))
data_too_long periods made outputs some =
    lt_divided 2147483629 (made * outputs) periods some
    ∙ lt_doubled (periods * (made * outputs))
    ∙ ap (λ x. nat_lt 4294967259 (2 * x)) (sym (mul_assoc periods made outputs))

-- the frames of so many periods behind so many
pub frames_fit : (at periods taken : ℕ) → at ≤ 4294967295 → periods ≤ 4294967295 → taken ≤ MAX_RATE * MAX_PERIOD →
    at * taken + periods * taken < 576460752303423488
frames_fit at periods taken few more small =
    let one : at * taken ≤ 4294967295 * taken = mul-le-mul_right taken few in
    let other : periods * taken ≤ 4294967295 * taken = mul-le-mul_right taken more in
    omega arith

-- ---- periods and frames

pub cancel : (a b k : ℕ) → 0 < k → a * k ≤ b * k → a ≤ b
cancel a b k some less = omega (arith, le-div a (b * k) k some less, mul-div_left b some)

-- so many periods lie in the frames of which they take samples
pub periods_fit : (periods taken frames : ℕ) → 0 < taken → periods * taken ≤ frames →
    periods ≤ (frames + (taken - 1)) / taken
periods_fit periods taken frames some less = le-div periods (frames + (taken - 1)) taken some (omega (arith, less))

pub below_by : (a b k : ℕ) → a * k < b * k → a < b
below_by a b k less = go (cases_lt a b)
  where
    go : (a < b) ⊎ (b ≤ a) → a < b
    go (inl l) = l
    go (inr h) = absurd (omega (arith, less, mul-le-mul_right k h))

-- a part of some frames
pub minus : (a b k : ℕ) → a * k - b * k ≡ (a - b) * k
minus a b k = go (cases_lt a b)
  where
    go : (a < b) ⊎ (b ≤ a) → a * k - b * k ≡ (a - b) * k
    go (inl l) =
        let less : a * k ≤ b * k = mul-le-mul_right k (let z : a ≤ b = omega (arith, l) in z) in
        let none : a - b ≡ 0 = omega (arith, l) in
        (let z : a * k - b * k ≡ 0 * k = omega (arith, less) in z) ∙ ap (λ (m : ℕ). m * k) (sym none)
    go (inr h) =
        let all : a - b + b ≡ a = omega (arith, h) in
        let split : (a - b + b) * k ≡ (a - b) * k + b * k = omega arith in
        omega (arith, split, ap (λ (m : ℕ). m * k) all)

pub less_twice : (a b c d : ℕ) → b + c ≡ d → a - b - c ≡ a - d
less_twice a b c d is = omega (arith, is)

-- fewer bytes have no more frames
pub fewer_frames : (samples channels size : ℕ) → 1 ≤ channels → 2 * samples ≤ size →
    samples / channels ≤ size / (2 * channels)
fewer_frames samples channels size one fits =
    let part : samples / channels * channels ≤ samples = div-mul-le_self samples channels in
    let double : samples / channels * (2 * channels) ≡ 2 * (samples / channels * channels) = omega arith in
    le-div (samples / channels) size (2 * channels) (omega (arith, one)) (omega (arith, part, double, fits))

-- and take no more periods
pub fewer_periods : (few many taken : ℕ) → 0 < taken → few ≤ many →
    (few + (taken - 1)) / taken ≤ (many + (taken - 1)) / taken
fewer_periods few many taken some less =
    let part : (few + (taken - 1)) / taken * taken ≤ few + (taken - 1) = div-mul-le_self (few + (taken - 1)) taken in
    le-div ((few + (taken - 1)) / taken) (many + (taken - 1)) taken some (omega (arith, part, less))

pub positive : (a b : ℕ) → 0 < a → 0 < b → 0 < a * b
positive a b l m = let z : 1 * b ≤ a * b = mul-le-mul_right b l in omega (arith, z, m)

-- ---- blocks of what is kept

module _ (j taken made f channels len : ℕ) (some_j : 0 < j) (some_taken : 0 < taken)
    (few_made : made ≤ MAX_RATE * MAX_PERIOD)
    (same : f ≡ channels) (one : 1 ≤ channels) (few : len ≤ 4294967295) where
  some_f : 0 < f
  some_f = omega (arith, one, same)

  abbrev blocks : ℕ
  blocks = len / (j * taken * f)

  pub blocks_there : blocks * (j * taken * f) ≤ len
  blocks_there = div-mul-le_self len (j * taken * f)

  pub periods_small : blocks * j ≤ 4294967295
  periods_small =
      let more : blocks * j * 1 ≤ blocks * j * (taken * f) =
      mul-le-mul_left (blocks * j) (let z : 1 ≤ taken * f = positive taken f some_taken some_f in z) in
      let all : blocks * j * (taken * f) ≡ blocks * (j * taken * f) = omega arith in
      omega (arith, more, all, blocks_there, few)

  pub frames_small : blocks * j * made ≤ 288230376084602880
  frames_small =
      let less : blocks * j * made ≤ 4294967295 * made = mul-le-mul_right made periods_small in
      omega (arith, less, few_made)
