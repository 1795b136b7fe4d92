-- Statements of the laws: of the file of a sound, of inputs, and of pieces that are read or written in turn.
use Rattle.std.specs.Prelude.{◌≡◌, ◌≤◌, ◌<◌, ◌^◌, ◌%◌, ◌+◌, ◌*◌, ◌⊎◌, ◌++◌, ℕ, ℤ, List, [], length, Option, None, Ok}
use Rattle.std.specs.Prelude.{Err}
use Rattle.std.specs.Io.KnownBytes.{Appends}
use Rattle.sdf_wav.specs.declared.fault.FormatFault.{FormatFault}
use Rattle.sdf_wav.specs.declared.format.Format.{Format}
use Rattle.sdf_wav.specs.declared.wav.TheConstants.{MAX_CHANNELS}
use Rattle.sdf_wav.specs.Canonical.{IsCanonical, canonical_wav, sample_bytes, write_fault}
use Rattle.sdf_wav.specs.Fault.{HasFault}
use Rattle.sdf_wav.specs.Grammar.{IsWav}
use Rattle.sdf_wav.specs.PiecesIn.{ContentInValue, Opens, OpensAs, IsReadTo, IsEnded, sound_read, next_at}
use Rattle.sdf_wav.specs.Sound.{Sound, IsSound}

-- ---- files of a sound

-- the canonical file of a sound is a file of that sound, with nothing behind it
abbrev pub CanonicalIsWav : Type 0
CanonicalIsWav = (s : Sound) → IsSound s → write_fault s ≡ None → IsWav (canonical_wav s) s []

-- the canonical file of whole frames is the file of a sound, whatever numbers its samples are
abbrev pub FilesAreCanonical : Type 0
FilesAreCanonical =
    (s : Sound) → 1 ≤ s.rate → s.rate < 2 ^ 32 → 1 ≤ s.channels → s.channels ≤ MAX_CHANNELS →
    length s.samples % s.channels ≡ 0 → write_fault s ≡ None → IsCanonical (canonical_wav s)

-- samples written in turn are written as one list
abbrev pub PutsJoin : Type 0
PutsJoin =
    (a b c : Option (List ℕ)) (x y : List ℤ) → Appends a b (sample_bytes x) → Appends b c (sample_bytes y) →
    Appends a c (sample_bytes (x ++ y))

-- ---- inputs

-- every input is a file of a sound, or has a fault
abbrev pub SomeOutcome : Type 0
SomeOutcome =
    (bytes : List ℕ) → ((s : Sound) × (rest : List ℕ) × IsWav bytes s rest) ⊎ ((f : FormatFault) × HasFault bytes f)

-- a file is of one sound, with one rest
abbrev pub OneSound : Type 0
OneSound = (bytes : List ℕ) (s t : Sound) (x y : List ℕ) → IsWav bytes s x → IsWav bytes t y → (s ≡ t) × (x ≡ y)

-- an input has one fault
abbrev pub OneFault : Type 0
OneFault = (bytes : List ℕ) (f g : FormatFault) → HasFault bytes f → HasFault bytes g → f ≡ g

-- a file has no fault
abbrev pub NotBoth : Type 0
NotBoth = (bytes : List ℕ) (s : Sound) (x : List ℕ) (f : FormatFault) → IsWav bytes s x → HasFault bytes f → ⊥

-- ---- pieces that are read in turn

-- every file opens
abbrev pub FilesOpen : Type 0
FilesOpen =
    (input : List ℕ) (s : Sound) (rest : List ℕ) → IsWav input s rest →
    (f : Format) × (size : ℕ) × (bytes : List ℕ) × Opens input f size bytes

-- a file opens with its sound's format, and a size that is filled in is the size of its samples
abbrev pub FilesOpenAs : Type 0
FilesOpenAs = (input : List ℕ) (s : Sound) (rest : List ℕ) → IsWav input s rest → OpensAs input s

-- the pieces, joined, are the samples of the content that is gone
abbrev pub PiecesGoOn : Type 0
PiecesGoOn =
    (input : List ℕ) (r : ContentInValue) (before : List ℤ) (bytes : List ℕ) (frames : ℕ) (samples : List ℤ)
    (rest : List ℕ) →
    IsReadTo input r before bytes → next_at r frames bytes ≡ Ok (samples, rest) →
    IsReadTo input (record r { gone = r.gone + 2 * length samples }) (before ++ samples) rest

-- fewer frames than were asked for come only at the end
abbrev pub FewEnd : Type 0
FewEnd =
    (input : List ℕ) (r : ContentInValue) (before : List ℤ) (bytes : List ℕ) (frames : ℕ) (samples : List ℤ)
    (rest : List ℕ) →
    IsReadTo input r before bytes → next_at r frames bytes ≡ Ok (samples, rest) →
    length samples < frames * r.channels → IsEnded (record r { gone = r.gone + 2 * length samples }) rest

-- at the end the input is a file of the samples read
abbrev pub PiecesEnd : Type 0
PiecesEnd =
    (input : List ℕ) (r : ContentInValue) (samples : List ℤ) (rest : List ℕ) → IsReadTo input r samples rest →
    IsEnded r rest → IsWav input (sound_read r samples) rest

-- a fault of a piece is a fault of the input
abbrev pub PiecesFall : Type 0
PiecesFall =
    (input : List ℕ) (r : ContentInValue) (before : List ℤ) (bytes : List ℕ) (frames : ℕ) (f : FormatFault) →
    IsReadTo input r before bytes → next_at r frames bytes ≡ Err f → HasFault input f
