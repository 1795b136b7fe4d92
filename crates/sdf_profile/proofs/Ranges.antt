-- Ranges of a list.
use Rattle.std.proofs.Common.{◌≡◌, ◌≤◌, ◌+◌, ◌-◌, ◌++◌, ℕ, List, take, drop, arith, subst}
use Rattle.std.specs.Prelude.{slice_range}
use Rattle.std.proofs.Math.Seq.{take-add}

-- what stands up to j is what stands up to i, and behind it the range between them
pub take-range : (i j : ℕ) (xs : List ℕ) → i ≤ j → take j xs ≡ take i xs ++ slice_range xs i j
take-range i j xs le =
    let whole : i + (j - i) ≡ j = omega arith in
    subst (λ k. take k xs ≡ take i xs ++ take (j - i) (drop i xs)) whole (take-add i (j - i) xs)
