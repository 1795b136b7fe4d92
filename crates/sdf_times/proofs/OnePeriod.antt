-- There is at most one period: lines that both stay within a bound of the same ends rise alike.
use Rattle.std.proofs.Common.{ℕ, suc, ◌+◌, ◌*◌, ◌≤◌, ◌<◌, ◌⊎◌, inl, inr, arith}
use Rattle.std.proofs.Math.Nat.{mul-le-mul_left, mul-le-mul_right}
use Rattle.std.proofs.lemmas.Bool.{cases_lt}
use Rattle.sdf_times.specs.Periods.{OnePeriod}

-- a line that never gets further above another than a bound rises no faster
pub rises_within : (a b bound : ℕ) → ((n : ℕ) → a * n ≤ b * n + bound) → a ≤ b
rises_within a b bound within = go (cases_lt b a)
  where
    go : (b < a) ⊎ (a ≤ b) → a ≤ b
    go (inr low) = low
    go (inl high) =
        let up : suc b * (bound + 1) ≤ a * (bound + 1) = mul-le-mul_right (bound + 1) high in
        let low = within (bound + 1) in
        absurd (omega arith)

pub half : (end : ℕ → ℕ) (t q u v c d : ℕ) → ((b : ℕ) → t * b ≤ q * end b + c) → ((b : ℕ) → v * end b ≤ u * b + d) →
    t * v ≤ u * q
half end t q u v c d soon late = rises_within (t * v) (u * q) (v * c + q * d) (λ n. at n)
  where
    at : (n : ℕ) → (t * v) * n ≤ (u * q) * n + (v * c + q * d)
    at n =
        let one : v * (t * n) ≤ v * (q * end n + c) = mul-le-mul_left v (soon n) in
        let two : q * (v * end n) ≤ q * (u * n + d) = mul-le-mul_left q (late n) in
        omega arith

pub one_period : OnePeriod
one_period end t q u v one two =
    let low = half end t q u v one.bound two.bound one.soon two.late in
    let high = half end u v t q two.bound one.bound two.soon one.late in
    omega arith
