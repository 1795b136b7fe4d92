-- The faults of inputs that are not WAV files: one rule for each cause. No two rules give one input different faults.
use Rattle.std.specs.Prelude.{◌≡◌, ◌≢◌, ◌⊎◌, ℕ, ◌*◌, ◌%◌, ◌≤◌, ◌<◌, min, List, [], ◌++◌, length, take, drop, Option}
use Rattle.std.specs.Prelude.{Some, None, Result, Ok, Err, codes}
use Rattle.byteorder.specs.Endian.{little_number}
use Rattle.sdf_wav.specs.declared.fault.FormatFault.{FormatFault}
use Rattle.sdf_wav.specs.declared.fault.FormatFault.TheVariants.{NotRiff, NotWave, NoFormat, NoData, Truncated, TooLong}
use Rattle.sdf_wav.specs.declared.fault.FormatFault.TheVariants.{ShortFormat, PartialFrame, RateTooLarge}
use Rattle.sdf_wav.specs.declared.format.Format.{Format}
use Rattle.sdf_wav.specs.Parts.{format_of}
use Rattle.sdf_wav.specs.declared.fault.WavFault.{WavFault}
use Rattle.sdf_wav.specs.declared.fault.WavFault.TheVariants as faults
use Rattle.sdf_wav.specs.Device.{Known, LosesFront}
use Rattle.sdf_wav.specs.Sound.{Sound}
use Rattle.sdf_wav.specs.Grammar.{Chunk, Place, IsWav}

-- the rest begins with the first eight bytes of a chunk
pub record IsHeader (rest id size after : List ℕ) : Type 0 where
  pub id_is_four : length id ≡ 4
  pub size_is_four : length size ≡ 4
  pub whole : rest ≡ id ++ (size ++ after)

-- The first fault at the place of a chunk, behind this number of chunks and with this known of the format.
pub data PlaceFault (seen : Option Format) (passed : ℕ) (rest : List ℕ) : FormatFault → Type 0 where
  -- the input ends, or has no room for the first eight bytes of a chunk
  ends_early : seen ≡ None → rest ≡ [] → PlaceFault seen passed rest NoFormat
  ends_before_data : (f : Format) → seen ≡ Some f → rest ≡ [] → PlaceFault seen passed rest NoData
  header_cut : 0 < length rest → length rest < 8 → PlaceFault seen passed rest Truncated
  -- a chunk too many, or data before any format
  too_many : (id size after : List ℕ) → IsHeader rest id size after → id ≢ codes "data" → passed ≡ 65536
      → PlaceFault seen passed rest TooLong
  data_too_early : (size after : List ℕ) → IsHeader rest (codes "data") size after → seen ≡ None
      → PlaceFault seen passed rest NoFormat
  -- the first format chunk is short, cut off, or says what can't be read
  format_short : (size after : List ℕ) → IsHeader rest (codes "fmt ") size after → seen ≡ None → passed < 65536
      → little_number 4 size < 16
      → PlaceFault seen passed rest ShortFormat
  format_cut : (size after : List ℕ) → IsHeader rest (codes "fmt ") size after → seen ≡ None → passed < 65536
      → 16 ≤ little_number 4 size → length after < little_number 4 size
      → PlaceFault seen passed rest Truncated
  format_bad : (size after : List ℕ) (f : FormatFault) → IsHeader rest (codes "fmt ") size after → seen ≡ None →
      passed < 65536
      → 16 ≤ little_number 4 size → little_number 4 size ≤ length after
      → format_of (take (min (little_number 4 size) 40) after) ≡ Err f
      → PlaceFault seen passed rest f
  -- a chunk that is skipped is cut off
  content_cut : (id size after : List ℕ) → IsHeader rest id size after → id ≢ codes "data" →
      (seen ≡ None → id ≢ codes "fmt ") → passed < 65536
      → length after < little_number 4 size
      → PlaceFault seen passed rest Truncated
  -- data of a known size is not whole frames, or is cut off
  data_partial : (f : Format) (size after : List ℕ) → IsHeader rest (codes "data") size after → seen ≡ Some f
      → little_number 4 size ≢ 0xFFFFFFFF → little_number 4 size % (2 * f.channels) ≢ 0
      → PlaceFault seen passed rest PartialFrame
  data_cut : (f : Format) (size after : List ℕ) → IsHeader rest (codes "data") size after → seen ≡ Some f
      → little_number 4 size ≢ 0xFFFFFFFF → little_number 4 size % (2 * f.channels) ≡ 0 →
      length after < little_number 4 size
      → PlaceFault seen passed rest Truncated
  -- data to the end of the input is too long, or is not whole frames
  open_long : (f : Format) (size after : List ℕ) → IsHeader rest (codes "data") size after → seen ≡ Some f
      → little_number 4 size ≡ 0xFFFFFFFF → 4294967294 < length after
      → PlaceFault seen passed rest TooLong
  open_partial : (f : Format) (size after : List ℕ) → IsHeader rest (codes "data") size after → seen ≡ Some f
      → little_number 4 size ≡ 0xFFFFFFFF → length after ≤ 4294967294 → length after % (2 * f.channels) ≢ 0
      → PlaceFault seen passed rest PartialFrame

-- An input has this fault: its first twelve bytes have, or behind whole chunks the next part has.
pub data HasFault (bytes : List ℕ) : FormatFault → Type 0 where
  riff_cut : length bytes < 4 → HasFault bytes Truncated
  not_riff : 4 ≤ length bytes → take 4 bytes ≢ codes "RIFF" → HasFault bytes NotRiff
  wave_cut : 4 ≤ length bytes → take 4 bytes ≡ codes "RIFF" → length bytes < 12 → HasFault bytes Truncated
  not_wave : take 4 bytes ≡ codes "RIFF" → 12 ≤ length bytes → take 4 (drop 8 bytes) ≢ codes "WAVE" →
      HasFault bytes NotWave
  at_place : (cs : List Chunk) (seen : Option Format) (rest : List ℕ) (f : FormatFault)
      → Place bytes cs seen rest → PlaceFault seen (length cs) rest f
      → HasFault bytes f

-- What the result of a reading says of the bytes before it and after it, if they are known. They are a file and the
-- rest behind it, or the input has the fault and lost a front, or only a front is gone. It never fails with a fault of
-- a writer.
abbrev pub Answers : Option (List ℕ) → Option (List ℕ) → Result Sound WavFault → Type 0
Answers old new (Ok s) = Known old new (λ input rest. IsWav input s rest)
Answers old new (Err (faults.Format f)) = Known old new (λ input left. HasFault input f × LosesFront input left)
Answers old new (Err faults.OutOfMemory) = Known old new LosesFront
Answers old new (Err faults.Read) = Known old new LosesFront
Answers old new (Err faults.Write) = ⊥

-- a fault that inputs have: a rate too large for any header is a fault of sounds alone
abbrev pub IsInputFault : FormatFault → Type 0
IsInputFault f = f ≢ RateTooLarge

-- a fault that reading may return, whatever is known of the bytes
abbrev pub IsReadingFault : WavFault → Type 0
IsReadingFault faults.OutOfMemory = Unit {0}
IsReadingFault (faults.Format f) = IsInputFault f
IsReadingFault faults.Read = Unit {0}
IsReadingFault faults.Write = ⊥

-- a fault that an opening may return, whatever is known of the bytes: it takes no memory
abbrev pub IsOpeningFault : WavFault → Type 0
IsOpeningFault faults.OutOfMemory = ⊥
IsOpeningFault (faults.Format f) = IsInputFault f
IsOpeningFault faults.Read = Unit {0}
IsOpeningFault faults.Write = ⊥

-- memory or the reader failed
abbrev pub IsFromOutside : WavFault → Type 0
IsFromOutside e = (e ≡ faults.OutOfMemory) ⊎ (e ≡ faults.Read)

-- the sound is returned and the rest left, unless memory or the reader failed
abbrev pub Accepts : Option (List ℕ) → Sound → List ℕ → Result Sound WavFault → Type 0
Accepts new s rest (Ok t) = (t ≡ s) × (new ≡ Some rest)
Accepts new s rest (Err e) = IsFromOutside e

-- the fault is returned, unless memory or the reader failed
abbrev pub Refuses : FormatFault → Result Sound WavFault → Type 0
Refuses f (Ok t) = ⊥
Refuses f (Err e) = (e ≡ faults.Format f) ⊎ IsFromOutside e
