-- The source of a sound's frames, and what is taken from it.
use Rattle.std.specs.Prelude.{◌≡◌, ℕ, ◌+◌, ◌*◌, ℤ, List, [], ◌++◌, length, take, drop, Option, None, Result, Ok, Err}
use Rattle.sdf_wav.specs.Device.{Known, LosesFront, ReaderState}
use Rattle.sdf_wav.specs.PiecesIn.{ContentInValue, IsReadTo}
use Rattle.sdf_wav.specs.Sound.{Sound}
use Rattle.sdf_faults.specs.declared.fault.Fault.{Fault}
use Rattle.sdf_faults.specs.declared.fault.Fault.TheVariants.{OutOfMemory}
use Rattle.sdf_process.specs.declared.source.Source.{Source}
use Rattle.sdf_process.specs.declared.source.Source.TheVariants.{Content, Decoded}
use Rattle.sdf_process.specs.Stages.{ReadsContent}

-- ---- the content of a file

-- these samples of the content c of an input were read, from its start on
abbrev pub ReadsBy : ContentInValue → List ℤ → Option (List ℕ) → Option (List ℕ) → Type 0
ReadsBy c samples old new =
    Known old new (λ bytes left. ((input : List ℕ) → IsReadTo input c [] bytes →
    IsReadTo input (record c { gone = c.gone + 2 * length samples }) samples left) × LosesFront bytes left)

-- This many frames behind the samples `before` were read, and are kept behind others; or the reading of the content
-- failed.
abbrev pub ReadsMore : ContentInValue → List ℤ → ℕ → List ℤ → ReaderState → ReaderState → ContentInValue →
    Result (List ℤ) Fault →
    Type 0
ReadsMore c before frames kept r r' now (Ok all) =
    (samples : List ℤ) × (all ≡ kept ++ samples) × (length samples ≡ frames * c.channels)
    × ReadsBy c (before ++ samples) r.remaining r'.remaining × (now ≡
    record c { gone = c.gone + 2 * length (before ++ samples) }) × (r'.failures ≡ r.failures)
ReadsMore c before frames kept r r' now (Err f) = ReadsContent c r r' (Err f)

-- ---- a content, or a sound that was read before

-- a source as a content; a sound that was read before has the size of its samples
abbrev pub reading_of : Source → ContentInValue
reading_of (Content c) = c
reading_of (Decoded s taken) = record {
  rate = s.rate;
  channels = s.channels;
  size = 2 * length s.samples;
  gone = 2 * taken;
  fault = None;
}

-- the source, once these samples more are taken
abbrev pub source_behind : Source → List ℤ → Source
source_behind (Content c) samples = Content (record c { gone = c.gone + 2 * length samples })
source_behind (Decoded s taken) samples = Decoded s (taken + length samples)

-- These samples were taken from the source. A sound that was read before leaves the reader alone.
abbrev pub Takes : Source → List ℤ → Option (List ℕ) → Option (List ℕ) → Type 0
Takes (Content c) samples old new = ReadsBy c samples old new
Takes (Decoded s taken) samples old new = (new ≡ old) × (samples ≡ take (length samples) (drop taken s.samples))

-- the whole sound was taken from the source, or that failed
abbrev pub TakesAll : Source → ReaderState → ReaderState → Result Sound Fault → Type 0
TakesAll (Content c) r r' result = ReadsContent c r r' result
TakesAll (Decoded s taken) r r' (Ok t) = (t ≡ s) × (r' ≡ r)
TakesAll (Decoded s taken) r r' (Err f) = (f ≡ OutOfMemory) × (r' ≡ r)

-- This many frames behind the samples `before` were taken, and are kept behind others; or that failed.
abbrev pub TakesMore : Source → List ℤ → ℕ → List ℤ → ReaderState → ReaderState → Source → Result (List ℤ) Fault →
    Type 0
TakesMore first before frames kept r r' now (Ok all) =
    (samples : List ℤ) × (all ≡ kept ++ samples) × (length samples ≡ frames * (reading_of first).channels)
    × Takes first (before ++ samples) r.remaining r'.remaining × (now ≡ source_behind first (before ++ samples))
    × (r'.failures ≡ r.failures)
TakesMore first before frames kept r r' now (Err f) = TakesAll first r r' (Err f)
