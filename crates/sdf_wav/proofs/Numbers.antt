-- Numbers within the bytes of a file.
use Rattle.std.proofs.Common.{◌≡◌, ℕ, ◌+◌, ◌-◌, ◌≤◌, List, take, drop, ap, ◌∙◌, arith}
use Rattle.std.proofs.lemmas.List.{drop-take}
use Rattle.byteorder.specs.Endian.{little_number}
use Rattle.byteorder.specs.Numbers.{little_from-take}

-- a number within the first m bytes
pub number_front : (i n m : ℕ) (xs : List ℕ) → i + n ≤ m →
    little_number n (drop i (take m xs)) ≡ little_number n (drop i xs)
number_front i n m xs h =
    let k : m ≡ i + (m - i) = omega arith in
    ap (λ (j : ℕ). little_number n (drop i (take j xs))) k ∙ ap (little_number n) (drop-take i (m - i) xs)
    ∙ little_from-take 0 n (m - i) (drop i xs) (omega arith)
