-- Stretches of taps: runs of sixteens whose products with any 16-bit samples sum up within 32 bits in each lane.
use Rattle.std.specs.Prelude.{ℕ, zero, suc, ◌≡◌, ◌<◌, ◌≤◌, ◌+◌, ◌-◌, ◌*◌, ◌/◌, max, List, [], ◌∷◌, ℤ, unsigned_abs}
use Rattle.std.specs.Prelude.{length}
use Rattle.std.specs.Prelude.{take, drop, ◌%◌, ◌^◌, slice_index_or, FitsSigned, Bool, true, ◌&&◌, ◌||◌, nat_lt, nat_le}
use Rattle.std.specs.Int.{w16, w32}
use Rattle.std.specs.List.{list_all}
use Rattle.std.specs.Simd.Lanes.{Each1}
use Rattle.sdf_kit.specs.declared.branches.Limits.{Limits}
use Rattle.sdf_kit.specs.declared.branches.TheConstants.{LEAST_PEAK_TO_SPLIT, STRETCH_COST}
use Rattle.sdf_kit.specs.declared.dots.FourDots.{FourDots}
use Rattle.sdf_kit.specs.Dots.{wrap, AreLanes, total, total_abs, dot}

-- the greatest sum of the absolute values of two neighbours, whose products are summed in one lane
abbrev pub weight : List ℤ → ℕ
weight [] = 0
weight (x ∷ []) = 0
weight (x ∷ y ∷ xs) = max (unsigned_abs x + unsigned_abs y) (weight xs)

-- the weights of the first n sixteens, summed
abbrev pub weight_of : ℕ → List ℤ → ℕ
weight_of zero h = 0
weight_of (suc n) h = weight_of n h + weight (take 16 (drop (16 * n) h))

-- the first n sixteens are a stretch: 65,535 times 32,768 is less than 2^31
abbrev pub IsStretch : ℕ → List ℤ → Type 0
IsStretch n h = weight_of n h ≤ 65535

-- the taps begin with a stretch of n sixteens
pub record IsReach (n : ℕ) (h : List ℤ) : Type 0 where
  pub within : 16 * n ≤ length h
  pub stretch : IsStretch n h

-- the number of stretches that a sum is made of after the next n sixteens, by the length of the stretch at each
-- sixteen: each begins where the last one ends
abbrev pub stretch_count : ℕ → List ℕ → ℕ
stretch_count n [] = 0
stretch_count zero (x ∷ xs) = 1 + stretch_count (x - 1) xs
stretch_count (suc n) (x ∷ xs) = stretch_count n xs

-- whether 16-bit samples above the peak are summed by stretches: one begins at each sixteen. If samples of `up`
-- branches can be split, the stretches after the first of each branch cost no more than a second pass over the
-- sixteens.
abbrev pub is_wide : List ℕ → ℕ → ℕ → Bool
is_wide lens up peak = list_all (λ n. nat_lt 0 n) lens
    && (nat_lt peak LEAST_PEAK_TO_SPLIT
    || nat_le (STRETCH_COST * stretch_count 0 lens) (length lens + STRETCH_COST * up))

-- the length of the stretch at each sixteen, in sixteens and at least 1
pub record AreStretches (h : List ℤ) (lens : List ℕ) : Type 0 where
  pub many : length lens ≡ length h / 16
  pub some : (k : ℕ) → k < length lens → 1 ≤ slice_index_or lens k 0
  pub each : (k : ℕ) → k < length lens → IsReach (slice_index_or lens k 0) (drop (16 * k) h)

-- taps of a branch that can be summed with vectors of sixteen
pub record AreVectors (h : List ℤ) : Type 0 where
  pub whole : length h % 16 ≡ 0
  pub few : length h ≤ 1024
  pub short : Each1 (FitsSigned w16) h

-- one 16-bit sample for each tap
pub record AreSeen (h x : List ℤ) : Type 0 where
  pub many : length x ≡ length h
  pub short : Each1 (FitsSigned w16) x

-- sums far below 64 bits
pub record AreSmall (sums : FourDots) : Type 0 where
  pub a : unsigned_abs sums.a ≤ 2 ^ 50
  pub b : unsigned_abs sums.b ≤ 2 ^ 50
  pub c : unsigned_abs sums.c ≤ 2 ^ 50
  pub d : unsigned_abs sums.d ≤ 2 ^ 50

-- no lane is further from 0 than m
abbrev pub AreLanesWithin : ℕ → List ℤ → Type 0
AreLanesWithin m sums = Each1 (λ z. unsigned_abs z ≤ m) sums

-- lanes whose total is a dot product, up to a multiple of 2^32, and exactly if the taps are a stretch
pub record AreSums (h x sums : List ℤ) : Type 0 where
  pub lanes : AreLanes w32 8 sums
  pub value : wrap (total sums) ≡ wrap (dot h x)
  pub exact : IsStretch (length h / 16) h → total sums ≡ dot h x

-- taps whose sums fit in 32 bits: on samples within the peak, rounding included, and if the limits are wide, on any
-- 16-bit samples a stretch at a time
pub record IsBranch (limits : Limits) (h : List ℤ) (lens : List ℕ) : Type 0 where
  pub vectors : AreVectors h
  pub quiet : total_abs h * limits.peak ≤ 2147467263
  pub wide : limits.is_wide ≡ true → AreStretches h lens
