-- Reading a file in pieces: its parts up to the size of its data first, then its content, some frames at a time.
use Rattle.std.specs.Prelude.{◌≡◌, ◌≢◌, ◌⊎◌, ℕ, ◌+◌, ◌-◌, ◌*◌, ◌/◌, ◌%◌, ◌≤◌, min, not, if◌then◌else◌, nat_lt, ◌==◌, ℤ}
use Rattle.std.specs.Prelude.{List, [], ◌++◌, length, take, drop, Option, Some, None, IfSome, Result, Ok, Err, codes}
use Rattle.byteorder.specs.Endian.{little_number}
use Rattle.sdf_wav.specs.declared.fault.FormatFault.{FormatFault}
use Rattle.sdf_wav.specs.declared.fault.FormatFault.TheVariants.{Truncated, PartialFrame, TooLong}
use Rattle.sdf_wav.specs.declared.fault.WavFault.{WavFault}
use Rattle.sdf_wav.specs.declared.fault.WavFault.TheVariants as faults
use Rattle.sdf_wav.specs.declared.format.Format.{Format}
use Rattle.sdf_wav.specs.declared.wav.TheConstants.{MAX_CHANNELS}
use Rattle.sdf_wav.specs.Device.{Known, LosesFront}
use Rattle.sdf_wav.specs.Sound.{Sound, pcm_samples}
use Rattle.sdf_wav.specs.Grammar.{Chunk, Place}
use Rattle.sdf_wav.specs.Fault.{HasFault, IsReadingFault, IsFromOutside}

-- where a file is read on: what its parts say, how many bytes of its content are gone, and the fault that occurred
pub record ContentInValue : Type 0 where
  pub rate : ℕ
  pub channels : ℕ
  pub size : ℕ
  pub gone : ℕ
  pub fault : Option WavFault

abbrev pub format_read : ContentInValue → Format
format_read r = record { rate = r.rate; channels = r.channels }

-- a content of which nothing is read yet
abbrev pub at_start : Format → ℕ → ContentInValue
at_start f size = record { rate = f.rate; channels = f.channels; size = size; gone = 0; fault = None }

-- how many frames there are, if the size of the data was filled in
abbrev pub known_frames : ContentInValue → Option ℕ
known_frames r = if r.size == 0xFFFFFFFF then None else Some (r.size / (2 * r.channels))

-- The bytes begin as a WAV file does, up to the size of its data. Then comes the rest.
pub record Opens (bytes : List ℕ) (format : Format) (size : ℕ) (rest : List ℕ) : Type 0 where
  pub chunks : List Chunk
  pub size_bytes : List ℕ
  pub place : Place bytes chunks (Some format) (codes "data" ++ (size_bytes ++ rest))
  pub size_is_four : length size_bytes ≡ 4
  pub size_is : little_number 4 size_bytes ≡ size
  pub whole : size ≢ 0xFFFFFFFF → size % (2 * format.channels) ≡ 0

-- this number of bytes of a content can be gone: at most a known size, which is whole frames, or at most the maximum of
-- an unknown size
abbrev pub IsWithin : ℕ → ℕ → ℕ → Type 0
IsWithin align size gone =
    ((size ≢ 0xFFFFFFFF) × (size % align ≡ 0) × (gone ≤ size)) ⊎ ((size ≡ 0xFFFFFFFF) × (gone ≤ 4294967294))

-- a possible state of a reading
pub record IsReading (r : ContentInValue) : Type 0 where
  pub some_rate : 1 ≤ r.rate
  pub one_channel : 1 ≤ r.channels
  pub few_channels : r.channels ≤ MAX_CHANNELS
  pub size_fits : r.size ≤ 0xFFFFFFFF
  pub whole : r.gone % (2 * r.channels) ≡ 0
  pub within : IsWithin (2 * r.channels) r.size r.gone
  pub fault : IfSome r.fault IsReadingFault

-- An input was read up to here. It opens, these are the samples of the bytes of its content that are gone, and then
-- comes the rest.
pub record IsReadTo (input : List ℕ) (r : ContentInValue) (samples : List ℤ) (rest : List ℕ) : Type 0 where
  pub gone : List ℕ
  pub opens : Opens input (format_read r) r.size (gone ++ rest)
  pub count : length gone ≡ r.gone
  pub samples_are : samples ≡ pcm_samples gone
  pub whole : length gone % (2 * r.channels) ≡ 0
  pub within : IsWithin (2 * r.channels) r.size r.gone

-- nothing of the content is left
abbrev pub IsEnded : ContentInValue → List ℕ → Type 0
IsEnded r rest = ((r.size ≢ 0xFFFFFFFF) × (r.gone ≡ r.size)) ⊎ ((r.size ≡ 0xFFFFFFFF) × (rest ≡ []))

-- what was read, as a sound
abbrev pub sound_read : ContentInValue → List ℤ → Sound
sound_read r samples = record { rate = r.rate; channels = r.channels; samples = samples }

-- the next n bytes of a content of a known size
abbrev pub sized_piece : ℕ → List ℕ → Result (List ℤ × List ℕ) FormatFault
sized_piece n bytes = if nat_lt (length bytes) n then Err Truncated else Ok (pcm_samples (take n bytes), drop n bytes)

-- the next n bytes of a content that goes to the end of the input, after the bytes that are gone
abbrev pub open_piece : ℕ → ℕ → ℕ → List ℕ → Result (List ℤ × List ℕ) FormatFault
open_piece align gone n bytes =
    if nat_lt 4294967294 (gone + n) then Err TooLong
    else (if not (n % align == 0) then Err PartialFrame
    else Ok (pcm_samples (take n bytes), drop n bytes))

-- the samples of the next frames and the bytes behind them, or the fault among them. These are all frames asked for, or
-- all up to the content's end
unfoldable pub next_at : ContentInValue → ℕ → List ℕ → Result (List ℤ × List ℕ) FormatFault
next_at r frames bytes =
    let asked = 2 * (frames * r.channels) in
    if r.size == 0xFFFFFFFF then open_piece (2 * r.channels) r.gone (min asked (length bytes)) bytes
    else sized_piece (min asked (r.size - r.gone)) bytes

-- This number of samples can be read as the next frames, whatever is known of the bytes. It is whole frames, at most
-- what was asked for. For a known size it is exactly that, or all that is left if this is less.
pub record IsPiece (r : ContentInValue) (frames samples : ℕ) : Type 0 where
  pub most : samples ≤ frames * r.channels
  pub whole : samples % r.channels ≡ 0
  pub sized : r.size ≢ 0xFFFFFFFF → 2 * samples ≡ min (2 * (frames * r.channels)) (r.size - r.gone)

-- a fault within a content of a known size: it is cut off
abbrev pub IsSizedFault : WavFault → Type 0
IsSizedFault faults.OutOfMemory = Unit {0}
IsSizedFault (faults.Format f) = f ≡ Truncated
IsSizedFault faults.Read = Unit {0}
IsSizedFault faults.Write = ⊥

-- the input opens with the format of a sound, and a size that is filled in is the size of its samples
pub record OpensAs (input : List ℕ) (s : Sound) : Type 0 where
  pub size : ℕ
  pub rest : List ℕ
  pub opens : Opens input (record { rate = s.rate; channels = s.channels }) size rest
  pub sized : size ≢ 0xFFFFFFFF → size ≡ 2 * length s.samples

-- What a call returned, seen by view, is what `read` gives for the bytes before it. The bytes after it are what `read`
-- leaves. Both are true if the bytes are known and neither memory nor the reader failed. It never fails with a fault
-- of a writer.
abbrev pub AnswersBy : {X Y : Type 0} → (X → Y) → Option (List ℕ) → Option (List ℕ) →
    (List ℕ → Result (Y × List ℕ) FormatFault) → Result X WavFault → Type 0
AnswersBy view old new read (Ok x) = Known old new
    (λ input left. (read input ≡ Ok (view x, left)) × LosesFront input left)
AnswersBy view old new read (Err (faults.Format f)) =
    Known old new (λ input left. (read input ≡ Err f) × LosesFront input left)
AnswersBy view old new read (Err faults.OutOfMemory) = Known old new LosesFront
AnswersBy view old new read (Err faults.Read) = Known old new LosesFront
AnswersBy view old new read (Err faults.Write) = ⊥

-- an input has this fault before its content
pub record FailsToOpen (input : List ℕ) (f : FormatFault) : Type 0 where
  pub has : HasFault input f
  pub opens_not : (format : Format) (size : ℕ) (rest : List ℕ) → Opens input format size rest → ⊥

-- What the result of an opening says of the bytes before it and after it, if they are known. The input opens and its
-- content is before the reader, or it fails to open and lost a front, or only a front is gone.
abbrev pub AnswersOpening : Option (List ℕ) → Option (List ℕ) → Result ContentInValue WavFault → Type 0
AnswersOpening old new (Ok r) = Known old new (λ input left. IsReadTo input r [] left × LosesFront input left)
AnswersOpening old new (Err (faults.Format f)) =
    Known old new (λ input left. FailsToOpen input f × LosesFront input left)
AnswersOpening old new (Err faults.OutOfMemory) = Known old new LosesFront
AnswersOpening old new (Err faults.Read) = Known old new LosesFront
AnswersOpening old new (Err faults.Write) = ⊥

-- the content is before the reader, unless memory or the reader failed
abbrev pub OpensTo : Option (List ℕ) → Format → ℕ → List ℕ → Result ContentInValue WavFault → Type 0
OpensTo new f size rest (Ok r) = (r ≡ at_start f size) × (new ≡ Some rest)
OpensTo new f size rest (Err e) = IsFromOutside e

-- the fault is returned, unless memory or the reader failed
abbrev pub RefusesToOpen : FormatFault → Result ContentInValue WavFault → Type 0
RefusesToOpen f (Ok r) = ⊥
RefusesToOpen f (Err e) = (e ≡ faults.Format f) ⊎ IsFromOutside e

-- why a file did not open, if the bytes are known
abbrev pub OpenFails : Option (List ℕ) → WavFault → Type 0
OpenFails old (faults.Format f) = (input : List ℕ) → old ≡ Some input → FailsToOpen input f
OpenFails old faults.OutOfMemory = Unit {0}
OpenFails old faults.Read = Unit {0}
OpenFails old faults.Write = ⊥
