-- The canonical file of a sound, and which sounds have none.
use Rattle.std.specs.Prelude.{◌≡◌, ◌⊎◌, ℕ, ◌+◌, ◌*◌, nat_lt, if◌then◌else◌, ℤ, List, ◌++◌, length, Option, Some, None}
use Rattle.std.specs.Prelude.{Result, Ok, Err, codes}
use Rattle.std.specs.Int.{w16, cast_unsigned}
use Rattle.std.specs.List.{flat_map}
use Rattle.std.specs.Io.KnownBytes.{Appends, Keeps}
use Rattle.byteorder.specs.Endian.{little_bytes}
use Rattle.sdf_wav.specs.declared.fault.FormatFault.{FormatFault}
use Rattle.sdf_wav.specs.declared.fault.FormatFault.TheVariants.{RateTooLarge, TooLong}
use Rattle.sdf_wav.specs.declared.fault.WavFault.{WavFault}
use Rattle.sdf_wav.specs.declared.fault.WavFault.TheVariants as faults
use Rattle.sdf_wav.specs.Sound.{Sound, IsSound}
use Rattle.sdf_wav.specs.Device.{AppendsFront}

-- the 44 bytes before data of this size
unfoldable pub header : ℕ → ℕ → ℕ → List ℕ
header rate channels size =
    codes "RIFF" ++ little_bytes 4 (36 + size) ++ codes "WAVE"
    ++ codes "fmt " ++ little_bytes 4 16 ++ little_bytes 2 1 ++ little_bytes 2 channels
    ++ little_bytes 4 rate ++ little_bytes 4 (rate * (2 * channels)) ++ little_bytes 2 (2 * channels)
    ++ little_bytes 2 16
    ++ codes "data" ++ little_bytes 4 size

-- two bytes for each sample, the low one first
abbrev pub sample_bytes : List ℤ → List ℕ
sample_bytes samples = flat_map (λ z. little_bytes 2 (cast_unsigned w16 z)) samples

-- the canonical file of a sound
abbrev pub canonical_wav : Sound → List ℕ
canonical_wav s = header s.rate s.channels (2 * length s.samples) ++ sample_bytes s.samples

-- why no file has this rate and these numbers of channels and samples, if there is none. The bytes a second exceed 32
-- bits, or the bytes of the file behind its first eight do
abbrev pub size_fault : ℕ → ℕ → ℕ → Option FormatFault
size_fault rate channels samples =
    if nat_lt 4294967295 (rate * (2 * channels)) then Some RateTooLarge
    else (if nat_lt 4294967259 (2 * samples) then Some TooLong
    else None)

-- why a sound can't be written, if it can't
abbrev pub write_fault : Sound → Option FormatFault
write_fault s = size_fault s.rate s.channels (length s.samples)

-- the canonical file of some sound
pub record IsCanonical (file : List ℕ) : Type 0 where
  pub sound : Sound
  pub is_sound : IsSound sound
  pub fits : write_fault sound ≡ None
  pub whole : file ≡ canonical_wav sound

-- a fault that writing may return, whatever is known of the bytes
abbrev pub IsWritingFault : WavFault → Type 0
IsWritingFault (faults.Format f) = (f ≡ RateTooLarge) ⊎ (f ≡ TooLong)
IsWritingFault faults.Write = Unit {0}
IsWritingFault faults.Read = ⊥
IsWritingFault faults.OutOfMemory = ⊥

-- What a call did that should write a file unless this fault of its sound forbids it. It wrote the whole file, or
-- nothing at this fault, or a front of the file if the device failed. It never fails with a fault of memory or of a
-- reader.
abbrev pub Writes : {X : Type 0} → Option (List ℕ) → Option (List ℕ) → Option FormatFault → List ℕ → Result X WavFault →
    Type 0
Writes old new fault file (Ok x) = (fault ≡ None) × Appends old new file
Writes old new fault file (Err (faults.Format f)) = (fault ≡ Some f) × Keeps old new
Writes old new fault file (Err faults.Write) = (fault ≡ None) × AppendsFront old new file
Writes old new fault file (Err faults.Read) = ⊥
Writes old new fault file (Err faults.OutOfMemory) = ⊥
