-- The design that converts between two rates.
use Rattle.std.specs.Prelude.{◌≡◌, ℕ, zero, suc, ◌+◌, ◌-◌, ◌*◌, ◌/◌, ◌≤◌, ◌<◌, ◌^◌, ◌⊎◌, ◌&&◌, min, nat_le, List, ◌++◌}
use Rattle.std.specs.Prelude.{length, codes, string_bytes, slice_get, Option, Some, None, Result, Ok, Err}
use Rattle.sdf_limits.specs.declared.TheConstants.{MAX_CHANNEL}
use Rattle.sdf_filters.specs.declared.graph.TheConstants.{STAGE_SHIFT}
use Rattle.sdf_filters.specs.declared.fault.FilterFault.{FilterFault}
use Rattle.sdf_filters.specs.declared.fault.FilterFault.TheVariants.{OutOfMemory, RateTooLarge, Channels}
use Rattle.sdf_filters.specs.declared.stage.Stage.{Stage}
use Rattle.sdf_filters.specs.declared.filter_spec.Band.TheVariants.{Low}
use Rattle.sdf_filters.specs.declared.filter_spec.FilterSpec.{FilterSpec}
use Rattle.sdf_filters.specs.declared.stage.StageFile.{StageFile}
use Rattle.sdf_filters.specs.Lowpass.{tested}
use Rattle.sdf_filters.specs.FilterSpecs.{IsFault}
use Rattle.sdf_filters.specs.Filters.{AreFilterTexts}
use Rattle.sdf_filters.specs.Stages.{IsSplit, IsSplitFault}
use Rattle.sdf_filters.specs.Graphs.{stage_name, graph_text}
use Rattle.sdf_filters.specs.Delays.{delay}

-- the highest frequency that passes a conversion: ten elevenths of half the lower rate
abbrev pub passed : ℕ → ℕ → ℕ
passed from to = min from to * 5 / 11

-- the rate after a stage
abbrev pub put : ℕ → Option Stage → ℕ
put rate None = rate
put rate (Some s) = rate * s.up / s.down

-- the rate that the stage at a place takes
unfoldable pub rate_at : ℕ → List Stage → ℕ → ℕ
rate_at from stages zero = from
rate_at from stages (suc n) = put (rate_at from stages n) (slice_get stages n)

-- the filter of a stage that takes this rate: it stops the images of what passes, and all that would alias onto it
abbrev pub stage_spec : ℕ → ℕ → ℕ → Stage → FilterSpec
stage_spec rate pass attenuation s = record {
  rate = rate * s.up;
  band = Low pass (min rate (rate * s.up / s.down) - pass);
  attenuation = attenuation;
  up = s.up;
  shift = STAGE_SHIFT;
}

-- the coefficient file of a stage: the taps of its filter, whose rate fits in 32 bits, and their number
pub record IsStageFile (w : FilterSpec) (number : ℕ) (f : StageFile) : Type 0 where
  pub rate : w.rate < 2 ^ 32
  pub name : string_bytes f.name ≡ stage_name number ++ codes ".toml"
  pub texts : AreFilterTexts w (string_bytes f.text) (string_bytes f.summary) f.taps
  pub rate_is : f.rate ≡ w.rate

-- a file belongs to the stage with this number, which takes this rate
abbrev pub IsFileOf : ℕ → ℕ → ℕ → ℕ → Option Stage → Option StageFile → Type 0
IsFileOf rate pass attenuation number (Some s) (Some f) = IsStageFile (stage_spec rate pass attenuation s) number f
IsFileOf rate pass attenuation number stage file = ⊥

-- each of the first n files belongs to its stage
abbrev pub AreFilesTo : ℕ → ℕ → ℕ → List Stage → List StageFile → ℕ → Type 0
AreFilesTo from pass attenuation stages files n =
    (k : ℕ) → k < n →
    IsFileOf (rate_at from stages k) pass attenuation (k + 1) (slice_get stages k) (slice_get files k)

-- a file for each stage, in order
pub record AreStageFiles (from pass attenuation : ℕ) (stages : List Stage) (files : List StageFile) : Type 0 where
  pub all : length files ≡ length stages
  pub each : AreFilesTo from pass attenuation stages files (length stages)

-- whether a converter may have this number of channels
abbrev pub channels_test : ℕ → Result (Unit {0}) FilterFault
channels_test channels = tested (nat_le 1 channels && nat_le channels (MAX_CHANNEL + 1)) (Channels channels) (Ok tt)

-- The channels are 1 to 8. The graph file and the coefficient files are made for stages whose product is the ratio of
-- the rates. The output is late by the delay of their filters.
pub record IsConverter (from to channels attenuation : ℕ) (graph : List ℕ) (files : List StageFile) (late : ℕ) : Type 0
  where
    pub allowed : channels_test channels ≡ Ok tt
    pub stages : List Stage
    pub split : IsSplit from to stages
    pub graph_is : graph ≡ graph_text from to channels stages
    pub files_are : AreStageFiles from (passed from to) attenuation stages files
    pub late_is : late ≡ delay to files

-- a rate has over 32 bits
pub record IsRateFault (rate : ℕ) (fault : FilterFault) : Type 0 where
  pub large : 2 ^ 32 ≤ rate
  pub is : fault ≡ RateTooLarge rate

-- why there is no file of a stage that takes this rate: its filter's rate is too large, or it is not and the filter has
-- no taps
abbrev pub IsStageFault : ℕ → ℕ → ℕ → Stage → FilterFault → Type 0
IsStageFault rate pass attenuation s fault =
    IsRateFault (rate * s.up) fault
    ⊎ ((rate * s.up < 2 ^ 32) × IsFault (stage_spec rate pass attenuation s) fault)

-- the stage at a place has no file, and all before it have theirs
pub record IsStagesFault (from pass attenuation : ℕ) (stages : List Stage) (fault : FilterFault) : Type 0 where
  pub place : ℕ
  pub stage : Stage
  pub stands : slice_get stages place ≡ Some stage
  pub files : List StageFile
  pub before : AreFilesTo from pass attenuation stages files place
  pub fault_is : IsStageFault (rate_at from stages place) pass attenuation stage fault

-- why there is no design: the channels, then the ratio of the rates, then a stage. Memory may be refused once the
-- channels are 1 to 8 and no rate is 0
pub data IsConverterFault (from to channels attenuation : ℕ) (fault : FilterFault) : Type 0 where
  memory : channels_test channels ≡ Ok tt → 0 < from → 0 < to → fault ≡ OutOfMemory →
      IsConverterFault from to channels attenuation fault
  channels : channels_test channels ≡ Err fault → IsConverterFault from to channels attenuation fault
  split : channels_test channels ≡ Ok tt → IsSplitFault from to fault →
      IsConverterFault from to channels attenuation fault
  stage : channels_test channels ≡ Ok tt → (stages : List Stage) → IsSplit from to stages →
      IsStagesFault from (passed from to) attenuation stages fault →
      IsConverterFault from to channels attenuation fault
