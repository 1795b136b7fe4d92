-- What each part of the reader gives, for the crate's own functions: a value and the bytes after it, or the first
-- fault. Grammar and Fault say, apart from this, what a file is and which faults an input has.
use Rattle.std.specs.Prelude.{◌≡◌, ℕ, zero, suc, ◌+◌, ◌*◌, ◌%◌, min, Bool, true, false, not, ◌&&◌, if◌then◌else◌}
use Rattle.std.specs.Prelude.{nat_lt, ◌==◌, List, length, take, drop, Option, Some, None, Result, Ok, Err}
use Rattle.sdf_wav.specs.declared.fault.FormatFault.{FormatFault}
use Rattle.sdf_wav.specs.declared.fault.FormatFault.TheVariants.{ShortFormat, Truncated, PartialFrame, TooLong}
use Rattle.sdf_wav.specs.declared.fault.ReadFault.{ReadFault}
use Rattle.sdf_wav.specs.declared.fault.ReadFault.TheVariants as read_faults
use Rattle.sdf_wav.specs.declared.parts.ChunkKind.{ChunkKind}
use Rattle.sdf_wav.specs.declared.parts.ChunkKind.TheVariants as kinds
use Rattle.sdf_wav.specs.declared.parts.ChunkHeader.{ChunkHeader}
use Rattle.sdf_wav.specs.declared.format.Format.{Format}
use Rattle.sdf_wav.specs.declared.parts.DataStart.{DataStart}
use Rattle.sdf_wav.specs.declared.chunks.Step.{Step}
use Rattle.sdf_wav.specs.declared.chunks.Step.TheVariants as steps
use Rattle.sdf_wav.specs.Device.{Known, LosesFront}
use Rattle.sdf_wav.specs.Sound.{Sound}
use Rattle.sdf_wav.specs.Content.{content_at}
use Rattle.sdf_wav.specs.Parts.{riff_of, header_of, format_of, data_start}

infixl 10 ◌>>=◌
abbrev pub ◌>>=◌ : {A B : Type 0} → Result A FormatFault → (A → Result B FormatFault) → Result B FormatFault
(Ok x) >>= f = f x
(Err e) >>= f = Err e

-- what a fault says of the reading: nothing if it is a fault of the memory or the device
abbrev pub Explains : {Y : Type 0} → ReadFault → Result Y FormatFault → Type 0
Explains read_faults.OutOfMemory read = Unit {0}
Explains (read_faults.Format f) read = read ≡ Err f
Explains read_faults.Device read = Unit {0}

-- What a call returned, seen by view, is what `read` gives for the bytes before it, and the bytes after it are what
-- `read` leaves. In any case a front of the bytes is gone.
abbrev pub Reads : {X Y : Type 0} → (X → Y) → Option (List ℕ) → Option (List ℕ) →
    (List ℕ → Result (Y × List ℕ) FormatFault) → Result X ReadFault → Type 0
Reads view old new read (Ok x) = Known old new (λ input left. (read input ≡ Ok (view x, left)) × LosesFront input left)
Reads view old new read (Err e) = Known old new (λ input left. Explains e (read input) × LosesFront input left)

-- what the first k bytes are read as, or all of them if there are fewer
abbrev pub field : {A : Type 0} → ℕ → (List ℕ → Result A FormatFault) → List ℕ → Result (A × List ℕ) FormatFault
field k read bytes = read (take k bytes) >>= λ x. Ok (x, drop k bytes)

abbrev pub riff_at : List ℕ → Result (Unit {0} × List ℕ) FormatFault
riff_at bytes = field 12 riff_of bytes

abbrev pub header_at : Bool → List ℕ → Result (ChunkHeader × List ℕ) FormatFault
header_at has_format bytes = field 8 (header_of has_format) bytes

-- n bytes
abbrev pub front_at : ℕ → List ℕ → Result (List ℕ × List ℕ) FormatFault
front_at n bytes = if nat_lt (length bytes) n then Err Truncated else Ok (take n bytes, drop n bytes)

-- n bytes that are not looked at
abbrev pub skip_at : ℕ → List ℕ → Result (Unit {0} × List ℕ) FormatFault
skip_at n bytes = if nat_lt (length bytes) n then Err Truncated else Ok (tt, drop n bytes)

-- the pad byte of a content of this size, if it has one and it is there
abbrev pub pad_at : ℕ → List ℕ → Result (Unit {0} × List ℕ) FormatFault
pad_at size bytes = Ok (tt, drop (size % 2) bytes)

abbrev pub skipped_at : ℕ → List ℕ → Result (Unit {0} × List ℕ) FormatFault
skipped_at size bytes = if nat_lt (length bytes) size then Err Truncated else Ok (tt, drop (size + size % 2) bytes)

-- a content of this size, of which the first n bytes are looked at
unfoldable pub looked_at : ℕ → ℕ → List ℕ → Result (List ℕ × List ℕ) FormatFault
looked_at n size bytes = if nat_lt (length bytes) size then Err Truncated else Ok (take n bytes, drop size bytes)

-- a format chunk's content, of which forty bytes are looked at
unfoldable pub pcm_at : ℕ → List ℕ → Result (Format × List ℕ) FormatFault
pcm_at size bytes = looked_at (min size 40) size bytes >>= λ x. format_of x.0 >>= λ format. Ok (format, x.1)

-- a format chunk's content, which needs 16 bytes or more, and the pad byte
unfoldable pub format_at : ℕ → List ℕ → Result (Format × List ℕ) FormatFault
format_at size bytes = if nat_lt size 16 then Err ShortFormat else
    (pcm_at size bytes >>= λ x. Ok (x.0, drop (size % 2) x.1))

-- a chunk before the data: the first format chunk is read
abbrev pub passed_at : ChunkKind → ℕ → Option Format → List ℕ → Result (Option Format × List ℕ) FormatFault
passed_at kinds.Format size None bytes = format_at size bytes >>= λ x. Ok (Some x.0, x.1)
passed_at kind size seen bytes = skipped_at size bytes >>= λ x. Ok (seen, x.1)

abbrev pub is_some : Option Format → Bool
is_some None = false
is_some (Some f) = true

-- at the place of a chunk: the data, or another chunk and what is known of the format behind it
unfoldable pub step_at : Option Format → List ℕ → Result (Step × List ℕ) FormatFault
step_at seen bytes = header_at (is_some seen) bytes >>= λ h. elim h.0.kind [
  | kinds.Data ↦ (data_start seen h.0.size >>= λ start. Ok (steps.Data start, h.1))
  | _ ↦ (passed_at h.0.kind h.0.size seen h.1 >>= λ x. Ok (steps.Passed x.0, x.1))
]

-- at the place of a chunk: the data and nothing else
unfoldable pub last_at : Option Format → List ℕ → Result (DataStart × List ℕ) FormatFault
last_at seen bytes = header_at (is_some seen) bytes >>= λ h. elim h.0.kind [
  | kinds.Data ↦ (data_start seen h.0.size >>= λ start. Ok (start, h.1))
  | _ ↦ Err TooLong
]

-- the data, behind at most n more chunks
unfoldable pub data_at : ℕ → Option Format → List ℕ → Result (DataStart × List ℕ) FormatFault
data_at zero seen bytes = last_at seen bytes
data_at (suc n) seen bytes = step_at seen bytes >>= λ x. elim x.0 [
  | steps.Data start ↦ Ok (start, x.1)
  | steps.Passed now ↦ data_at n now x.1
]

-- data whose size is whole frames, or was never filled in
abbrev pub whole_at : DataStart → List ℕ → Result (DataStart × List ℕ) FormatFault
whole_at start bytes =
    if not (start.size == 0xFFFFFFFF) && not (start.size % (2 * start.format.channels) == 0) then Err PartialFrame
    else Ok (start, bytes)

-- a file as far as the size of its data
unfoldable pub open_at : List ℕ → Result (DataStart × List ℕ) FormatFault
open_at bytes = riff_at bytes >>= λ r. data_at 65536 None r.1 >>= λ d. whole_at d.0 d.1

-- a whole file: its sound, and what is behind its data
unfoldable pub wav_at : List ℕ → Result (Sound × List ℕ) FormatFault
wav_at bytes =
    riff_at bytes >>= λ r. data_at 65536 None r.1 >>= λ d. content_at (2 * d.0.format.channels) d.0.size d.1
    >>= λ s. Ok (record { rate = d.0.format.rate; channels = d.0.format.channels; samples = s.0 }, s.1)
