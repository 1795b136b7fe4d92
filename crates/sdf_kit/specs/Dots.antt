-- Lanes of vectors, and dot products.
use Rattle.std.specs.Prelude.{ℕ, ◌≡◌, ◌<◌, ◌≤◌, List, [], ◌∷◌, ℤ, pos, ◌+◌, ◌*◌, unsigned_abs, ◌+ℤ◌, ◌*ℤ◌, length}
use Rattle.std.specs.Prelude.{FitsSigned}
use Rattle.std.specs.Int.{int_wrap, Width, w32}
use Rattle.std.specs.Simd.Lanes.{Each1, zip2}
use Rattle.sdf_kit.specs.Samples.{sample}

-- z wrapped to 32 bits: it changes by a multiple of 2^32
abbrev pub wrap : ℤ → ℤ
wrap z = int_wrap w32 z

-- the sum of each two neighbours
abbrev pub neighbours : List ℤ → List ℤ
neighbours [] = []
neighbours (x ∷ []) = []
neighbours (x ∷ y ∷ xs) = wrap (x +ℤ y) ∷ neighbours xs

-- n numbers of width w
pub record AreLanes (w : Width) (n : ℕ) (xs : List ℤ) : Type 0 where
  pub many : length xs ≡ n
  pub fits : Each1 (FitsSigned w) xs

abbrev pub total : List ℤ → ℤ
total [] = pos 0
total (x ∷ xs) = x +ℤ total xs

-- the sum of the products, place by place
abbrev pub dot : List ℤ → List ℤ → ℤ
dot [] x = pos 0
dot (h ∷ hs) [] = pos 0
dot (h ∷ hs) (x ∷ xs) = (h *ℤ x) +ℤ dot hs xs

-- the sum of the absolute values
abbrev pub total_abs : List ℤ → ℕ
total_abs [] = 0
total_abs (x ∷ xs) = unsigned_abs x + total_abs xs

-- no number is further from 0 than m
abbrev pub AreWithin : ℕ → List ℤ → Type 0
AreWithin m xs = (k : ℕ) → k < length xs → unsigned_abs (sample xs k) ≤ m

-- numbers from their upper bits and their lowest eight
abbrev pub joined : List ℤ → List ℤ → List ℤ
joined high low = zip2 (λ a b. (pos 256 *ℤ a) +ℤ b) high low

-- a sum that wraps on the way is exact if the numbers are within a peak that the taps allow
abbrev pub QuietSumsAreExact : Type 0
QuietSumsAreExact = (taps x : List ℤ) (peak : ℕ) → AreWithin peak x → total_abs taps * peak ≤ 2147483647 →
    wrap (dot taps x) ≡ dot taps x

-- two sums that wrap, of upper and of lowest bits, are exact together if both are within the peak
abbrev pub SplitSumsAreExact : Type 0
SplitSumsAreExact =
    (taps high low : List ℤ) (peak : ℕ) → length high ≡ length low → AreWithin peak high → AreWithin peak low →
    total_abs taps * peak ≤ 2147483647 →
    (pos 256 *ℤ wrap (dot taps high)) +ℤ wrap (dot taps low) ≡ dot taps (joined high low)
