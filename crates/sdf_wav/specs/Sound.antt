-- What a WAV file says: a rate, a number of channels, and samples, interleaved by frame.
use Rattle.std.specs.Prelude.{◌≡◌, ℕ, ◌≤◌, ◌<◌, ◌^◌, FitsSigned, ◌/◌, ◌%◌, ◌||◌, nat_lt, ◌==◌, not, if◌then◌else◌, ℤ}
use Rattle.std.specs.Prelude.{List, [], ◌∷◌, length, Result, Ok, Err}
use Rattle.std.specs.List.{AllByRecursion}
use Rattle.std.specs.Int.{w16, cast_signed}
use Rattle.byteorder.specs.Endian.{little_number}
use Rattle.sdf_wav.specs.declared.fault.FormatFault.TheVariants.{Channels, RateZero, PartialFrame}
use Rattle.sdf_wav.specs.declared.fault.WavFault.{WavFault}
use Rattle.sdf_wav.specs.declared.fault.WavFault.TheVariants.{Format}
use Rattle.sdf_wav.specs.declared.wav.TheConstants.{MAX_CHANNELS}

pub record Sound : Type 0 where
  pub rate : ℕ
  pub channels : ℕ
  pub samples : List ℤ

-- how many frames a sound has
abbrev pub frames_of : Sound → ℕ
frames_of s = length s.samples / s.channels

-- a sound from its parts, or the first fault in them
abbrev pub sound_of : ℕ → ℕ → List ℤ → Result Sound WavFault
sound_of rate channels samples =
    if (channels == 0) || nat_lt MAX_CHANNELS channels then Err (Format Channels)
    else (if rate == 0 then Err (Format RateZero)
    else (if not (length samples % channels == 0) then Err (Format PartialFrame)
    else Ok (record { rate = rate; channels = channels; samples = samples })))

-- two bytes for each sample, the low one first
abbrev pub pcm_samples : List ℕ → List ℤ
pcm_samples [] = []
pcm_samples (a ∷ []) = []
pcm_samples (a ∷ b ∷ bytes) = cast_signed w16 (little_number 2 (a ∷ b ∷ [])) ∷ pcm_samples bytes

-- a sound of numbers that its types hold
pub record IsSound (s : Sound) : Type 0 where
  pub some_rate : 1 ≤ s.rate
  pub rate_fits : s.rate < 2 ^ 32
  pub one_channel : 1 ≤ s.channels
  pub few_channels : s.channels ≤ MAX_CHANNELS
  pub samples_fit : AllByRecursion (FitsSigned w16) s.samples
  pub whole : length s.samples % s.channels ≡ 0
