-- The data of a file: its samples, and what is behind them.
use Rattle.std.specs.Prelude.{◌≡◌, ℕ, ◌%◌, min, not, if◌then◌else◌, nat_lt, ◌==◌, ℤ, List, [], length, take, drop}
use Rattle.std.specs.Prelude.{Result, Ok, Err}
use Rattle.sdf_wav.specs.declared.fault.FormatFault.{FormatFault}
use Rattle.sdf_wav.specs.declared.fault.FormatFault.TheVariants.{Truncated, PartialFrame, TooLong}
use Rattle.sdf_wav.specs.Sound.{pcm_samples}

-- the samples of the first n bytes of an input, and what is left behind them: n is limit, or fewer if the input ends
pub record Holds (input left : List ℕ) (limit n : ℕ) (samples : List ℤ) : Type 0 where
  pub count : n ≡ min limit (length input)
  pub samples_are : samples ≡ pcm_samples (take limit input)
  pub left_is : left ≡ drop limit input

-- data that goes to the end of the input
abbrev pub open_content_at : ℕ → List ℕ → Result (List ℤ × List ℕ) FormatFault
open_content_at align bytes =
    if nat_lt 4294967294 (length bytes) then Err TooLong
    else (if not (length bytes % align == 0) then Err PartialFrame
    else Ok (pcm_samples bytes, []))

-- data of a known size
abbrev pub sized_content_at : ℕ → ℕ → List ℕ → Result (List ℤ × List ℕ) FormatFault
sized_content_at align size bytes =
    if not (size % align == 0) then Err PartialFrame
    else (if nat_lt (length bytes) size then Err Truncated
    else Ok (pcm_samples (take size bytes), drop size bytes))

unfoldable pub content_at : ℕ → ℕ → List ℕ → Result (List ℤ × List ℕ) FormatFault
content_at align size bytes = if size == 0xFFFFFFFF then open_content_at align bytes else sized_content_at
    align size bytes
