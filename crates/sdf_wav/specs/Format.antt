-- What formats are read and written.
use Rattle.std.specs.Prelude.{◌≤◌, Option, Some, None}
use Rattle.sdf_wav.specs.declared.format.Format.{Format}
use Rattle.sdf_wav.specs.declared.chunks.Step.{Step}
use Rattle.sdf_wav.specs.declared.chunks.Step.TheVariants as steps
use Rattle.sdf_wav.specs.declared.wav.TheConstants.{MAX_CHANNELS}

pub record IsFormat (f : Format) : Type 0 where
  pub rate : 1 ≤ f.rate
  pub low : 1 ≤ f.channels
  pub high : f.channels ≤ MAX_CHANNELS

abbrev pub IsKnown : Option Format → Type 0
IsKnown None = Unit {0}
IsKnown (Some f) = IsFormat f

abbrev pub IsStep : Step → Type 0
IsStep (steps.Data start) = IsFormat start.format
IsStep (steps.Passed seen) = IsKnown seen
