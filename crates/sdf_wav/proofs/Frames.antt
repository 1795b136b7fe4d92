-- Whole frames.
use Rattle.std.proofs.Common.{◌≡◌, ℕ, ◌+◌, ◌-◌, ◌*◌, ◌/◌, ◌%◌, ◌≤◌, min, inl, inr, sym, ap, ◌∙◌, arith}
use Rattle.std.proofs.lemmas.Bool.{cases_lt}
use Rattle.std.proofs.Math.Nat.{div-add-mod, mul_assoc, mul_comm, mul-mod_right, mul-add-mod_self_left}

twice : (n c : ℕ) → n % (2 * c) ≡ 0 → n ≡ 2 * (c * (n / (2 * c)))
twice n c h = sym (div-add-mod n (2 * c)) ∙ omega (arith, h, mul_assoc 2 c (n / (2 * c)))

pub whole_is_even : (n c : ℕ) → n % (2 * c) ≡ 0 → n % 2 ≡ 0
whole_is_even n c h = let t = twice n c h in omega arith

pub whole_frames : (n c : ℕ) → n % (2 * c) ≡ 0 → n / 2 % c ≡ 0
whole_frames n c h =
    let k : n / 2 ≡ c * (n / (2 * c)) = omega (arith, twice n c h) in
    ap (λ m. m % c) k ∙ mul-mod_right c (n / (2 * c))

-- more bytes behind whole frames
pub past_whole : (n m d : ℕ) → n % d ≡ 0 → (n + m) % d ≡ m % d
past_whole n m d h =
    let k : n ≡ d * (n / d) = sym (div-add-mod n d) ∙ omega (arith, h) in
    ap (λ j. (j + m) % d) k ∙ mul-add-mod_self_left d (n / d) m

pub less_whole : (n m d : ℕ) → n % d ≡ 0 → m % d ≡ 0 → m ≤ n → (n - m) % d ≡ 0
less_whole n m d h k le =
    let all : m + (n - m) ≡ n = omega arith in
    sym (past_whole m (n - m) d k) ∙ ap (λ j. j % d) all ∙ h

pub asked_whole : (frames c : ℕ) → (2 * (frames * c)) % (2 * c) ≡ 0
asked_whole frames c =
    let e : 2 * (frames * c) ≡ (2 * c) * frames = omega (arith, mul_assoc 2 c frames, mul_comm frames c) in
    ap (λ n. n % (2 * c)) e ∙ mul-mod_right (2 * c) frames

pub smaller_whole : (n m d : ℕ) → n % d ≡ 0 → m % d ≡ 0 → min n m % d ≡ 0
smaller_whole n m d h k =
    elim (cases_lt n m) [
      | inl lt ↦ let e : min n m ≡ n = omega arith in ap (λ j. j % d) e ∙ h
      | inr le ↦ let e : min n m ≡ m = omega arith in ap (λ j. j % d) e ∙ k
    ]

-- bytes of whole frames are twice their samples
pub twice_halved : (n samples c : ℕ) → n % (2 * c) ≡ 0 → samples ≡ n / 2 → 2 * samples ≡ n
twice_halved n samples c whole e = let even = whole_is_even n c whole in omega arith

pub half_whole : (n samples c : ℕ) → n % (2 * c) ≡ 0 → 2 * samples ≡ n → samples % c ≡ 0
half_whole n samples c whole e =
    let half : samples ≡ n / 2 = omega arith in
    ap (λ m. m % c) half ∙ whole_frames n c whole

pub twice_whole : (n c : ℕ) → n % c ≡ 0 → (2 * n) % (2 * c) ≡ 0
twice_whole n c h =
    let k : n ≡ c * (n / c) = sym (div-add-mod n c) ∙ omega (arith, h) in
    let e : 2 * n ≡ (2 * c) * (n / c) = omega (arith, k, mul_assoc 2 c (n / c)) in
    ap (λ m. m % (2 * c)) e ∙ mul-mod_right (2 * c) (n / c)
