-- Outputs in the lanes of vectors.
use Rattle.std.specs.Prelude.{ℕ, zero, suc, ◌≡◌, ◌<◌, ◌≤◌, ◌+◌, ◌-◌, ◌*◌, ◌/◌, ◌%◌, ◌^◌, ◌⊎◌, nat_le, cond}
use Rattle.std.specs.Prelude.{List, [], ◌∷◌, length, take, drop, sum, slice_index_or, ℤ, pos, ◌+ℤ◌, ◌*ℤ◌}
use Rattle.std.specs.Prelude.{unsigned_abs, FitsSigned}
use Rattle.std.specs.Int.{w16, w32}
use Rattle.std.specs.Simd.Lanes.{Each1}
use Rattle.sdf_kit.specs.Samples.{sample, upsampled}
use Rattle.sdf_kit.specs.Fir.{convolved}
use Rattle.sdf_kit.specs.Dots.{AreLanes, wrap}
use Rattle.sdf_kit.specs.Stretches.{IsReach, weight_of}
use Rattle.sdf_kit.specs.declared.tiles.Tiles.{Tiles}
use Rattle.sdf_kit.specs.declared.carries.Carried.{Carried}

-- two numbers, n times
abbrev pub times : ℕ → ℤ → ℤ → List ℤ
times zero a b = []
times (suc n) a b = a ∷ b ∷ times n a b

-- the products of pair k in lane l: the taps of eight outputs stand side by side, two of each
abbrev pub pair_sum : List ℤ → List ℤ → ℕ → ℕ → ℤ
pair_sum taps x l k = (sample taps (16 * k + 2 * l) *ℤ sample x (2 * k))
    +ℤ (sample taps (16 * k + (2 * l + 1)) *ℤ sample x (2 * k + 1))

-- the products of the first n pairs in lane l
abbrev pub lane_sum : List ℤ → List ℤ → ℕ → ℕ → ℤ
lane_sum taps x l zero = pos 0
lane_sum taps x l (suc k) = lane_sum taps x l k +ℤ pair_sum taps x l k

-- lanes that are the sums of the first n pairs, up to a multiple of 2^32
pub record AreTileSums (taps x : List ℤ) (n : ℕ) (sums : List ℤ) : Type 0 where
  pub lanes : AreLanes w32 8 sums
  pub each : (l : ℕ) → l < 8 → sample sums l ≡ wrap (lane_sum taps x l n)

-- a place that is none of the eight from `at` on
abbrev pub IsApart : ℕ → ℕ → Type 0
IsApart at n = (n < at) ⊎ (at + 8 ≤ n)

-- the sum of a tile of taps in lane l, on the samples from a place on
abbrev pub tile_sum : List ℤ → List ℤ → ℕ → ℕ → ℤ
tile_sum taps x first l = lane_sum taps (drop first x) l (length taps / 16)

-- the number of samples before the newest one that an output needs
abbrev pub keep_of : List ℤ → ℕ → ℕ
keep_of taps up = (length taps - 1) / up

-- output n of a filter, not rounded; place 0 is at the first input that is taken
abbrev pub whole_output : List ℤ → ℕ → ℕ → List ℤ → ℕ → ℤ
whole_output taps up down x n = convolved taps (upsampled up x) (keep_of taps up * up + n * down)

-- how many samples the newest one of output 8 * v + l is behind that of output 8 * v
abbrev pub reach : ℕ → ℕ → ℕ → ℕ → ℕ
reach up down v l = (8 * v + l) * down / up - 8 * v * down / up

-- the tap for sample i, where the phase's first tap is for sample `end`, and the later ones for those before it
abbrev pub lane_tap : List ℤ → ℕ → ℕ → ℕ → ℕ → ℤ
lane_tap taps up phase end i = cond (nat_le i end) (sample taps (phase + (end - i) * up)) (pos 0)

-- the place of sample i's tap in lane l of a row
abbrev pub lane_place : ℕ → ℕ → ℕ
lane_place l i = 16 * (i / 2) + (2 * l + i % 2)

-- the tap of output 8 * v + l for sample i of the window of vector v; zero if it has none
abbrev pub tile_tap : List ℤ → ℕ → ℕ → ℕ → ℕ → ℕ → ℤ
tile_tap taps up down v l i =
    lane_tap taps up ((8 * v + l) * down % up) (reach up down v l + keep_of taps up) i

-- the row of vector v in a table whose rows have `pairs` pairs of samples
abbrev pub row_of : List ℤ → ℕ → ℕ → List ℤ
row_of table pairs v = take (16 * pairs) (drop (v * (16 * pairs)) table)

abbrev pub row_at : Tiles → ℕ → List ℤ
row_at t v = row_of t.table.items t.pairs v

-- the window of vector v has the samples of all of its outputs, and ends at most two samples behind those of a set of
-- firings
pub record IsWindow (keep up down firings pairs v : ℕ) : Type 0 where
  pub whole : reach up down v 7 + keep < 2 * pairs
  pub room : 8 * v * down / up + 2 * pairs ≤ firings * down + keep + 2

-- the taps of a set of firings, vector by vector: eight outputs each
pub record AreTiles (taps : List ℤ) (up down : ℕ) (t : Tiles) : Type 0 where
  pub some : 1 ≤ t.vectors
  pub few : t.vectors ≤ 64
  pub firings : (1 ≤ t.firings) × (t.firings ≤ 8)
  pub set : t.firings * up ≡ 8 * t.vectors
  pub pairs : t.pairs ≤ 1024
  pub long : length t.table.items ≡ t.vectors * (16 * t.pairs)
  pub short : Each1 (FitsSigned w16) t.table.items
  pub windows : (v : ℕ) → v < t.vectors → IsWindow (keep_of taps up) up down t.firings t.pairs v
  pub are : (v l i : ℕ) → v < t.vectors → l < 8 → i < 2 * t.pairs →
      sample t.table.items (v * (16 * t.pairs) + lane_place l i) ≡ tile_tap taps up down v l i

-- after those of `done` firings, the first m outputs of each of four sets of firings are put
pub record IsTurn (f : ℕ → ℤ) (done firings up : ℕ) (old new : List ℤ) (m : ℕ) : Type 0 where
  pub len : length new ≡ length old
  pub before : (n : ℕ) → n < done * up → sample new n ≡ sample old n
  pub put : (w k : ℕ) → w < 4 → k < m → sample new ((done + w * firings) * up + k) ≡ f ((done + w * firings) * up + k)

-- the number of pairs of the stretch at each pair of a row, at least 1: their sums fit in 32 bits in each lane, with
-- any samples of 16 bits
pub record AreRowStretches (h : List ℤ) (lens : List ℕ) : Type 0 where
  pub many : length h ≡ 16 * length lens
  pub few : length lens ≤ 1024
  pub some : (k : ℕ) → k < length lens → 1 ≤ slice_index_or lens k 0
  pub each : (k : ℕ) → k < length lens → IsReach (slice_index_or lens k 0) (drop (16 * k) h)

-- lanes that are the sums of the first n pairs, by their upper and lower halves
pub record AreCarried (taps x : List ℤ) (n : ℕ) (carried : Carried) : Type 0 where
  pub high : AreLanes w32 8 carried.high
  pub low : AreLanes w32 8 carried.low
  pub high_small : (l : ℕ) → l < 8 → unsigned_abs (sample carried.high l) ≤ n * 32768
  pub low_small : (l : ℕ) → l < 8 → unsigned_abs (sample carried.low l) ≤ n * 65535
  pub value : (l : ℕ) → l < 8 →
      (pos 65536 *ℤ sample carried.high l) +ℤ sample carried.low l ≡ lane_sum taps x l n

-- The stretches are those of every row, and all sums fit in 32 bits once they are shifted.
pub record AreWideTiles (shift : ℕ) (t : Tiles) : Type 0 where
  pub rows : (v : ℕ) → v < t.vectors → AreRowStretches (row_at t v) t.stretches.items
  pub total : (v : ℕ) → v < t.vectors → weight_of (length t.stretches.items) (row_at t v) ≤ 65535 * 2 ^ shift

-- the stretches at the first n weights: each has a weight, and no more than a stretch may have
pub record AreSpans (weights stretches : List ℕ) (n : ℕ) : Type 0 where
  pub some : (k : ℕ) → k < n → 1 ≤ slice_index_or stretches k 0
  pub within : (k : ℕ) → k < n → k + slice_index_or stretches k 0 ≤ length weights
  pub light : (k : ℕ) → k < n → sum (take (slice_index_or stretches k 0) (drop k weights)) ≤ 65535
