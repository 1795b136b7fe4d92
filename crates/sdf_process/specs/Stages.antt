-- The stages of a run: what each of them says of the devices.
use Rattle.std.specs.Prelude.{◌≡◌, ◌≢◌, ◌⊎◌, ℕ, ◌+◌, ◌*◌, ◌≤◌, ℤ, List, [], length, Some}
use Rattle.std.specs.Prelude.{Result, Ok, Err, false}
use Rattle.std.specs.Io.KnownBytes.{Appends}
use Rattle.sdf_actor.specs.Nets.{Netlist}
use Rattle.sdf_queues.specs.RunResults.{AreOutputs, periods_of as firings}
use Rattle.sdf_kit.specs.declared.kit.Kit.{Kit}
use Rattle.sdf_kit.specs.Kit.{kit_steps}
use Rattle.sdf_wav.specs.Canonical.{sample_bytes}
use Rattle.sdf_wav.specs.Device.{AppendsFront, Known, LosesFront, one_more, ReaderState, WriterState}
use Rattle.sdf_wav.specs.Fault.{HasFault}
use Rattle.sdf_wav.specs.PiecesIn.{ContentInValue, Opens, OpensTo, AnswersOpening, IsReadTo, IsEnded}
use Rattle.sdf_wav.specs.PiecesOut.{ContentOutValue}
use Rattle.sdf_wav.specs.Sound.{Sound}
use Rattle.sdf_wav.specs.declared.format.Format.{Format}
use Rattle.sdf_wav.specs.declared.fault.FormatFault.{FormatFault}
use Rattle.sdf_wav.specs.declared.fault.FormatFault.TheVariants.{Truncated}
use Rattle.sdf_process.specs.declared.io_rates.IoRates.{IoRates}
use Rattle.sdf_process.specs.declared.io_rates.OutputSize.{OutputSize}
use Rattle.sdf_faults.specs.declared.fault.Fault.{Fault}
use Rattle.sdf_faults.specs.declared.fault.Fault.TheVariants.{OutOfMemory, Wav, Read, Write}
use Rattle.sdf_process.specs.Output.{info_of, io_rates_of, input_lists, interleaved, output_frames}
use Rattle.sdf_process.specs.Output.{output_header, periods_of, IsOutputSize}
use Rattle.sdf_process.specs.Run.{Announces, AreFrames, IsAllowed, IsRun}

-- What a call wrote that is to write these bytes: all of them, or a front if the writer failed.
abbrev pub PutsBytes : {X : Type 0} → WriterState → WriterState → List ℕ → Result X Fault → Type 0
PutsBytes w w' bytes (Ok x) = Appends w.contents w'.contents bytes × (w'.failures ≡ w.failures)
PutsBytes w w' bytes (Err f) =
    (f ≡ Write) × AppendsFront w.contents w'.contents bytes × (w'.failures ≡ one_more w.failures)

-- The frames of a net on a sound were written: all of them; or, if the writer failed, a front of the frames of some
-- periods; or, if memory was refused, the frames of some periods.
abbrev pub PutsOutput : Netlist Kit ℤ → List ℕ → Sound → WriterState → WriterState → Result (Unit {0}) Fault → Type 0
PutsOutput n q s w w' (Ok x) =
    (lists : List (List ℤ)) × AreOutputs kit_steps n (input_lists (io_rates_of n q) s)
    (firings q (periods_of (io_rates_of n q) s)) lists
    × Appends w.contents w'.contents (sample_bytes (interleaved (output_frames (io_rates_of n q) s) lists))
    × (w'.failures ≡ w.failures)
PutsOutput n q s w w' (Err f) =
    (periods : ℕ) × (frames : List ℕ) × (periods ≤ periods_of (io_rates_of n q) s) × AreFrames n q s periods frames
    × (((f ≡ Write) × AppendsFront w.contents w'.contents frames × (w'.failures ≡ one_more w.failures))
    ⊎ ((f ≡ OutOfMemory) × Appends w.contents w'.contents frames × (w'.failures ≡ w.failures)))

-- the content c of an input was read from its start to its end, and this is its sound
pub record IsDecodedFrom (c : ContentInValue) (input : List ℕ) (s : Sound) (left : List ℕ) : Type 0 where
  pub read : IsReadTo input (record c { gone = c.gone + 2 * length s.samples }) s.samples left
  pub ended : IsEnded (record c { gone = c.gone + 2 * length s.samples }) left

-- what the reading of a whole content says of the reader before and after it
abbrev pub ReadsContent : ContentInValue → ReaderState → ReaderState → Result Sound Fault → Type 0
ReadsContent c r r' (Ok s) =
    Known r.remaining r'.remaining (λ bytes left. ((input : List ℕ) → IsReadTo input c [] bytes →
    IsDecodedFrom c input s left)
    × LosesFront bytes left) × (r'.failures ≡ r.failures)
    × (s.rate ≡ c.rate) × (s.channels ≡ c.channels) × (c.size ≢ 0xFFFFFFFF → 2 * length s.samples ≡ c.size)
ReadsContent c r r' (Err f) =
    ((f ≡ OutOfMemory) × Known r.remaining r'.remaining LosesFront × (r'.failures ≡ r.failures))
    ⊎ (((f ≡ Read) × Known r.remaining r'.remaining LosesFront × (r'.failures ≡ one_more r.failures))
    ⊎ ((g : FormatFault) × (f ≡ Wav g) × Known r.remaining r'.remaining
    (λ bytes left. ((input : List ℕ) → IsReadTo input c [] bytes → HasFault input g) × LosesFront bytes left)
    × (r'.failures ≡ r.failures) × (c.size ≢ 0xFFFFFFFF → g ≡ Truncated)))

-- an input was read to the end of its content, this is its sound, and it has the announced number of frames
pub record IsDecoded (input : List ℕ) (s : Sound) (left : List ℕ) : Type 0 where
  pub reading : ContentInValue
  pub read : IsReadTo input reading s.samples left
  pub ended : IsEnded reading left
  pub rate : s.rate ≡ reading.rate
  pub channels : s.channels ≡ reading.channels
  pub announces : Announces reading s.samples left (info_of s)

-- All that is known once a sound was decoded and the header of its output is written. e is the rate and length of the
-- output, of which nothing is written except the header.
pub record Decodes (x : IoRates) (r r' : ReaderState) (w w' : WriterState) (s : Sound) (e : OutputSize)
    (o : ContentOutValue) :
    Type 0 where
  pub decoded : Known r.remaining r'.remaining (λ input rest. IsDecoded input s rest × LosesFront input rest)
  pub allowed : (input : List ℕ) → r.remaining ≡ Some input → IsAllowed x input
  pub output_size : IsOutputSize x (info_of s) e
  pub header : Appends w.contents w'.contents (output_header x (info_of s))
  pub owed : o ≡ record { channels = x.outputs; missing = output_frames x s; spent = false }
  pub reader : r'.failures ≡ r.failures
  pub writer : w'.failures ≡ w.failures

-- a content that was opened by a reader, and how this left the reader
pub record IsOpened (r r' : ReaderState) (c : ContentInValue) : Type 0 where
  pub answers : AnswersOpening r.remaining r'.remaining (Ok c)
  pub only : (input : List ℕ) (f : Format) (size : ℕ) (rest : List ℕ) → r.remaining ≡ Some input →
      Opens input f size rest → OpensTo r'.remaining f size rest (Ok c)
  pub counted : r'.failures ≡ r.failures

-- what the stages behind an opening say of the run, whatever was opened
abbrev pub RunsOn : Netlist Kit ℤ → List ℕ → ContentInValue → ReaderState → ReaderState → WriterState → WriterState →
    Result (Unit {0}) Fault → Type 0
RunsOn n q c opened r' w w' result = (r : ReaderState) → IsOpened r opened c → IsRun n q r r' w w' result
