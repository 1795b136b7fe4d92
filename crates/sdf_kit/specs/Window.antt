-- The samples of a window, by their upper bits and their lowest ones.
use Rattle.std.specs.Prelude.{ℕ, ◌≡◌, ◌<◌, ◌≤◌, true, ℤ, pos, ◌-ℤ◌, ◌*ℤ◌, FitsSigned, List, length, take, drop}
use Rattle.std.specs.Int.{w16, int_shr}
use Rattle.std.specs.Simd.Lanes.{Each1}
use Rattle.sdf_kit.specs.Samples.{sample, rescaled}
use Rattle.sdf_kit.specs.declared.branches.Limits.{Limits}
use Rattle.sdf_kit.specs.declared.window.SampleForm.{SampleForm}
use Rattle.sdf_kit.specs.declared.window.SampleForm.TheVariants.{Quiet, Wide, Split}
use Rattle.sdf_kit.specs.declared.window.Part.{Part}
use Rattle.sdf_kit.specs.declared.window.Part.TheVariants.{Whole, High, Low}
use Rattle.sdf_kit.specs.Dots.{AreWithin, dot, joined}

pub record WindowValue : Type 0 where
  pub samples : List ℤ
  pub limits : Limits

-- the first n samples: the numbers themselves, or those joined from upper and lowest bits
abbrev pub held : SampleForm → List ℤ → List ℤ → ℕ → List ℤ
held Quiet high low n = take n high
held Wide high low n = take n high
held Split high low n = joined (take n high) (take n low)

-- no number is further from 0 than the peak, or the limits are wide and all numbers have 16 bits
abbrev pub AreWithinLimits : SampleForm → List ℤ → List ℤ → Limits → Type 0
AreWithinLimits Quiet high low limits = AreWithin limits.peak high
AreWithinLimits Wide high low limits = (limits.is_wide ≡ true) × Each1 (FitsSigned w16) high
AreWithinLimits Split high low limits = AreWithin limits.peak high × AreWithin limits.peak low

-- the first n are within the limits
pub record AreHeld (form : SampleForm) (high low : List ℤ) (n : ℕ) (limits : Limits) : Type 0 where
  pub high_room : n ≤ length high
  pub low_room : n ≤ length low
  pub small : limits.peak ≤ 32767
  pub within : AreWithinLimits form (take n high) (take n low) limits

-- the samples that taps meet from a place on
abbrev pub seen : List ℤ → List ℤ → ℕ → List ℤ
seen h x at = take (length h) (drop at x)

-- the output of a branch at a place
abbrev pub output_of : List ℤ → List ℤ → ℕ → ℕ → ℤ
output_of h x at shift = rescaled (dot h (seen h x at)) shift

-- a sample, its upper bits, or its lowest eight
abbrev pub part_as : Part → ℤ → ℤ
part_as Whole x = x
part_as High x = int_shr x 8
part_as Low x = x -ℤ (pos 256 *ℤ int_shr x 8)

-- these parts of samples have 16 bits
abbrev pub AreFit : Part → List ℤ → Type 0
AreFit part xs = (k : ℕ) → k < length xs → FitsSigned w16 (part_as part (sample xs k))
