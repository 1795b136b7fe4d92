-- An actor of the tests: it keeps a sample at phase 0, and puts it twice at phase 1.
use Rattle.std.specs.Prelude.{◌≡◌, ℕ, zero, suc, ℤ, pos, List, [], ◌∷◌, length, refl, slice_index_or}
use Rattle.std.specs.List.{sum_by, range_with_len}

abbrev pub twice_take : ℕ → ℕ
twice_take zero = 1
twice_take (suc j) = 0

abbrev pub twice_put : ℕ → ℕ
twice_put zero = 0
twice_put (suc j) = 2

abbrev pub twice_next : ℕ → ℤ → List ℤ → ℤ
twice_next zero s t = slice_index_or t 0 (pos 0)
twice_next (suc j) s t = s

abbrev pub twice_puts : ℕ → ℤ → List ℤ
twice_puts zero s = []
twice_puts (suc j) s = s ∷ s ∷ []

-- what it puts has the length that its rates give
pub twice_fits : (j : ℕ) (s : ℤ) → length (twice_puts j s) ≡ sum_by (λ p. twice_put j) (range_with_len 0 1)
twice_fits zero s = refl
twice_fits (suc j) s = refl
