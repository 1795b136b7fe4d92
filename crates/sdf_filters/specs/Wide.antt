-- Taps of over 16 bits, and the two lists of 16 bits that they are split into.
use Rattle.std.specs.Prelude.{◌≡◌, ℕ, ◌+◌, ◌-◌, ◌*◌, ◌^◌, ◌<◌, ◌≤◌, nat_lt, cond, ℤ, pos, ◌+ℤ◌, ◌*ℤ◌, List}
use Rattle.std.specs.Prelude.{length}
use Rattle.sdf_filters.specs.Phases.{tap, phase_sum, Have16Bits}

-- `count` taps, with this sum in each of `up` phases
pub record AreWholeTaps (up : ℕ) (total : ℤ) (count : ℕ) (h : List ℤ) : Type 0 where
  pub all : length h ≡ count
  pub exact : (phase : ℕ) → phase < up → phase_sum h up phase ≡ total

-- tap n of a filter whose input is `late` places late
abbrev pub late_tap : ℕ → List ℤ → ℕ → ℤ
late_tap late h n = cond (nat_lt n late) (pos 0) (tap h (n - late))

-- The taps of one filter, and those of two whose outputs are added. The first is behind a delay of `wait` samples. Each
-- tap is the first one's times 2^bits, plus the second one's.
pub record AreParts (up bits wait : ℕ) (taps high low : List ℤ) : Type 0 where
  pub each : (n : ℕ) → n < length taps →
      tap taps n ≡ (pos (2 ^ bits) *ℤ late_tap (wait * up) high n) +ℤ tap low n
  pub within : wait * up + length high ≤ length taps
  pub high_some : 0 < length high
  pub low_all : length low ≡ length taps
  pub high_small : Have16Bits high
  pub low_small : Have16Bits low
