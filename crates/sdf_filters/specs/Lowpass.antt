-- The tests of the values of a low-pass, and its taps.
use Rattle.std.specs.Prelude.{◌≡◌, ℕ, ◌<◌, ◌≤◌, ◌*◌, ◌%◌, ◌^◌, ◌⊎◌, Bool, true, false, ◌&&◌, nat_lt, nat_le, ℤ, pos}
use Rattle.std.specs.Prelude.{List}
use Rattle.std.specs.Prelude.{length, Result, Ok, Err}
use Rattle.sdf_limits.specs.declared.TheConstants.{MAX_FACTOR, MAX_SHIFT, MAX_TAPS}
use Rattle.sdf_filters.specs.declared.lowpass.TheConstants.{MAX_ATTENUATION}
use Rattle.sdf_filters.specs.declared.fault.FilterFault.{FilterFault}
use Rattle.sdf_filters.specs.declared.fault.FilterFault.TheVariants.{OutOfMemory, Up, Shift, Attenuation}
use Rattle.sdf_filters.specs.declared.fault.FilterFault.TheVariants.{PassNotBelowStop, StopOverHalf, TooManyTaps}
use Rattle.sdf_filters.specs.declared.fault.FilterFault.TheVariants.{TapTooLarge}
use Rattle.sdf_filters.specs.LowpassValue.{LowpassValue}
use Rattle.sdf_filters.specs.Phases.{phase_sum, Have16Bits, IsSymmetric}

-- the fault of a test that fails, otherwise what the later tests give
abbrev pub tested : {X : Type 0} → Bool → FilterFault → Result X FilterFault → Result X FilterFault
tested true fault later = later
tested false fault later = Err fault

abbrev pub is_factor : ℕ → Bool
is_factor n = nat_le 1 n && nat_le n MAX_FACTOR

-- the low-pass of these values, or the first fault
abbrev pub lowpass_of : LowpassValue → Result LowpassValue FilterFault
lowpass_of f =
    tested (is_factor f.up) (Up f.up)
    (tested (nat_le f.shift MAX_SHIFT) (Shift f.shift)
    (tested (nat_le f.attenuation MAX_ATTENUATION) (Attenuation f.attenuation)
    (tested (nat_lt f.pass f.stop) (PassNotBelowStop f.pass f.stop)
    (tested (nat_le (2 * f.stop) f.rate) (StopOverHalf f.stop f.rate)
    (Ok f)))))

-- a number of taps in whole phases, within the limit
pub record IsCount (up count : ℕ) : Type 0 where
  pub some : 0 < count
  pub few : count ≤ MAX_TAPS
  pub whole : count % up ≡ 0

-- This number of taps can be symmetric: no phase is its own mirror image, one tap is in the middle, or each sum is
-- even.
abbrev pub CanBeSymmetric : LowpassValue → ℕ → Type 0
CanBeSymmetric f count = (f.up % 2 ≡ 0) ⊎ ((count % 2 ≡ 1) ⊎ (0 < f.shift))

-- `count` taps of 16 bits, with the sum 2^shift in each phase, and of linear phase if they can be
pub record AreLowpassTaps (f : LowpassValue) (count : ℕ) (h : List ℤ) : Type 0 where
  pub all : length h ≡ count
  pub small : Have16Bits h
  pub exact : (phase : ℕ) → phase < f.up → phase_sum h f.up phase ≡ pos (2 ^ f.shift)
  pub symmetric : CanBeSymmetric f count → IsSymmetric h

-- the only fault of a number of taps
abbrev pub IsCountFault : FilterFault → Type 0
IsCountFault (TooManyTaps taps) = MAX_TAPS < taps
IsCountFault fault = ⊥

-- the faults of taps: memory, and a tap that has over 16 bits
abbrev pub IsTapFault : FilterFault → Type 0
IsTapFault OutOfMemory = Unit {0}
IsTapFault (TapTooLarge size) = 32768 ≤ size
IsTapFault fault = ⊥
