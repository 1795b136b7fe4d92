-- Filters that pass what one filter passes and another does not.
use Rattle.std.specs.Prelude.{◌≡◌, ℕ, ◌<◌, ◌/◌, ◌^◌, ℤ, pos, ◌-ℤ◌, FitsSigned, List, length, replicate, slice_set}
use Rattle.std.specs.Int.{w16}
use Rattle.sdf_filters.specs.LowpassValue.{LowpassValue}
use Rattle.sdf_filters.specs.Phases.{tap, phase_sum, Have16Bits, IsSymmetric}
use Rattle.sdf_filters.specs.Lowpass.{AreLowpassTaps, CanBeSymmetric}

pub record IsDifference (from tap left : ℤ) : Type 0 where
  pub is : left ≡ from -ℤ tap
  pub small : FitsSigned w16 left

-- the differences, place by place, each of 16 bits
pub record AreDifferences (from taps left : List ℤ) : Type 0 where
  pub all : length left ≡ length from
  pub each : (n : ℕ) → n < length from → tap left n ≡ tap from n -ℤ tap taps n
  pub small : Have16Bits left

-- `count` taps: the middle one has this height, and the others are 0
abbrev pub impulse : ℕ → ℤ → List ℤ
impulse count height = slice_set (replicate count (pos 0)) (count / 2) height

-- a high-pass: 2^shift at the middle, minus the taps of the low-pass; its taps sum to 0
pub record AreHighpassTaps (f : LowpassValue) (count : ℕ) (h : List ℤ) : Type 0 where
  pub all : length h ≡ count
  pub low : List ℤ
  pub low_is : AreLowpassTaps f count low
  pub inverse : AreDifferences (impulse count (pos (2 ^ f.shift))) low h
  pub none : phase_sum h 1 0 ≡ pos 0
  pub symmetric : IsSymmetric h

-- a band-pass: the taps of one low-pass minus the taps of another; the taps of each phase sum to 0
pub record AreBandpassTaps (f g : LowpassValue) (count : ℕ) (h : List ℤ) : Type 0 where
  pub all : length h ≡ count
  pub wide : List ℤ
  pub narrow : List ℤ
  pub wide_is : AreLowpassTaps f count wide
  pub narrow_is : AreLowpassTaps g count narrow
  pub band : AreDifferences wide narrow h
  pub none : (phase : ℕ) → phase < f.up → phase_sum h f.up phase ≡ pos 0
  pub symmetric : CanBeSymmetric f count → IsSymmetric h
