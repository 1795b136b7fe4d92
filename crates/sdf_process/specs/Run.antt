-- What a run of the program reads, returns and writes.
use Rattle.std.specs.Prelude.{◌≡◌, ◌≢◌, ℕ, ◌*◌, ◌/◌, ◌≤◌, ◌⊎◌, [], ◌++◌, ℤ, List, Option, Some, None, Result, Ok, Err}
use Rattle.std.specs.Prelude.{IfErr}
use Rattle.std.specs.Io.KnownBytes.{Appends, Keeps}
use Rattle.sdf_actor.specs.Nets.{Netlist}
use Rattle.sdf_queues.specs.RunResults.{AreOutputs, periods_of as firings}
use Rattle.sdf_kit.specs.declared.kit.Kit.{Kit}
use Rattle.sdf_kit.specs.Kit.{kit_steps}
use Rattle.sdf_wav.specs.Sound.{Sound, frames_of}
use Rattle.sdf_wav.specs.Grammar.{IsWav}
use Rattle.sdf_wav.specs.Fault.{HasFault}
use Rattle.sdf_wav.specs.Device.{AppendsFront, Known, LosesFront, one_more, ReaderState, WriterState}
use Rattle.sdf_wav.specs.Canonical.{canonical_wav, sample_bytes, IsCanonical}
use Rattle.sdf_process.specs.Output.{io_rates_of, info_fault, output_header, periods_of, lists_to, input_lists}
use Rattle.sdf_process.specs.Output.{interleaved, output_of, output_fault}
use Rattle.sdf_wav.specs.PiecesIn.{ContentInValue, Opens, IsReadTo, IsEnded, sound_read, known_frames}
use Rattle.sdf_wav.specs.declared.fault.FormatFault.{FormatFault}
use Rattle.sdf_wav.specs.declared.fault.FormatFault.TheVariants.{Truncated}
use Rattle.sdf_wav.specs.declared.format.Format.{Format}
use Rattle.sdf_process.specs.declared.io_rates.StreamInfo.{StreamInfo}
use Rattle.sdf_process.specs.declared.io_rates.IoRates.{IoRates}
use Rattle.sdf_faults.specs.declared.fault.Fault.{Fault}
use Rattle.sdf_faults.specs.declared.fault.Fault.TheVariants.{OutOfMemory, Wav, Read, Write, ChannelsMissing}
use Rattle.sdf_faults.specs.declared.fault.Fault.TheVariants.{RateNotWhole}

-- the sound that a net with repetition vector q makes of a sound: the sound of the lists that reach the sinks, in the
-- histories of the periods that it takes to read the input. By the law of histories there is only one
pub record IsOutput (n : Netlist Kit ℤ) (q : List ℕ) (s out : Sound) : Type 0 where
  pub lists : List (List ℤ)
  pub are_outputs : AreOutputs kit_steps n (input_lists (io_rates_of n q) s)
      (firings q (periods_of (io_rates_of n q) s)) lists
  pub output : out ≡ output_of (io_rates_of n q) s lists

-- the input begins with a WAV file, and there is an output of it
pub record HasOutput (n : Netlist Kit ℤ) (q : List ℕ) (input : List ℕ) (out : Sound) : Type 0 where
  pub sound : Sound
  pub rest : List ℕ
  pub is_wav : IsWav input sound rest
  pub is_allowed : output_fault (io_rates_of n q) sound ≡ None
  pub is_output : IsOutput n q sound out

-- The stream info of a content that was read this far: the frames by the size of its data or, if that was not filled
-- in, the frames that there are once nothing of it is left.
abbrev pub Announces : ContentInValue → List ℤ → List ℕ → StreamInfo → Type 0
Announces r samples rest a =
    (a.rate ≡ r.rate) × (a.channels ≡ r.channels)
    × ((known_frames r ≡ Some a.frames) ⊎ ((known_frames r ≡ None) × IsEnded r rest
    × (a.frames ≡ frames_of (sound_read r samples))))

-- the stream info by the size of data, if it was filled in
abbrev pub size_info : Format → ℕ → StreamInfo
size_info f size = record { rate = f.rate; channels = f.channels; frames = size / (2 * f.channels) }

-- the size of the data of an input was never filled in, if the input opens
abbrev pub IsUnsized : List ℕ → Type 0
IsUnsized input = (f : Format) (size : ℕ) (rest : List ℕ) → Opens input f size rest → size ≡ 0xFFFFFFFF

-- there is an output for the stream info by the size of the data, if the input opens and the size was filled in
abbrev pub IsAllowed : IoRates → List ℕ → Type 0
IsAllowed x input = (f : Format) (size : ℕ) (rest : List ℕ) → Opens input f size rest → size ≢ 0xFFFFFFFF →
    info_fault x (size_info f size) ≡ None

-- there is no output for the stream info of the input
pub record HasOutputFault (n : Netlist Kit ℤ) (q : List ℕ) (input : List ℕ) (f : Fault) : Type 0 where
  pub reading : ContentInValue
  pub samples : List ℤ
  pub rest : List ℕ
  pub info : StreamInfo
  pub read : IsReadTo input reading samples rest
  pub announces : Announces reading samples rest info
  pub fault : info_fault (io_rates_of n q) info ≡ Some f

-- this many whole periods were read of a content, the last one filled up with zeros once nothing is left
abbrev pub AreRead : IoRates → ContentInValue → List ℤ → List ℕ → ℕ → Type 0
AreRead x r samples rest periods =
    (periods * x.taken ≤ frames_of (sound_read r samples))
    ⊎ (IsEnded r rest × (periods ≤ periods_of x (sound_read r samples)))

-- the bytes of the frames that a net makes in the first periods of a sound: none, or the bytes of the lists that reach
-- the sinks
abbrev pub AreFrames : Netlist Kit ℤ → List ℕ → Sound → ℕ → List ℕ → Type 0
AreFrames n q s periods bytes =
    ((periods ≡ 0) × (bytes ≡ []))
    ⊎ ((lists : List (List ℤ)) × AreOutputs kit_steps n (lists_to periods (io_rates_of n q) s) (firings q periods) lists
    × (bytes ≡ sample_bytes (interleaved (periods * (io_rates_of n q).made) lists)))

-- What a run may have written of an input by now: the header of the output, by the stream info, and behind it the
-- frames of whole periods that were read.
pub record IsText (n : Netlist Kit ℤ) (q : List ℕ) (input text : List ℕ) : Type 0 where
  pub reading : ContentInValue
  pub samples : List ℤ
  pub rest : List ℕ
  pub info : StreamInfo
  pub periods : ℕ
  pub frames : List ℕ
  pub read : IsReadTo input reading samples rest
  pub announces : Announces reading samples rest info
  pub is_allowed : info_fault (io_rates_of n q) info ≡ None
  pub are_read : AreRead (io_rates_of n q) reading samples rest periods
  pub are_frames : AreFrames n q (sound_read reading samples) periods frames
  pub text_is : text ≡ output_header (io_rates_of n q) info ++ frames

-- a text of a run was written whole; `WritesFront`: a front of one was written
abbrev pub WritesText : Netlist Kit ℤ → List ℕ → List ℕ → Option (List ℕ) → Option (List ℕ) → Type 0
WritesText n q input before after = (text : List ℕ) × IsText n q input text × Appends before after text

abbrev pub WritesFront : Netlist Kit ℤ → List ℕ → List ℕ → Option (List ℕ) → Option (List ℕ) → Type 0
WritesFront n q input before after = (text : List ℕ) × IsText n q input text × AppendsFront before after text

abbrev pub WhereKnown : Option (List ℕ) → (List ℕ → Type 0) → Type 0
WhereKnown bytes P = (input : List ℕ) → bytes ≡ Some input → P input

-- What a run's result says of the input, and of what was written. On Ok: the output's canonical file. On a fault of the
-- output: nothing. On a fault of the input: nothing if it is before the content or if the size of the data was never
-- filled in, otherwise (the content is cut off) a whole text. If the writer failed: a front of a text. If memory was
-- refused or the reader failed: nothing or a whole text.
abbrev pub Runs : Netlist Kit ℤ → List ℕ → List ℕ → Option (List ℕ) → Option (List ℕ) → Result (Unit {0}) Fault → Type 0
Runs n q input before after (Ok x) = (out : Sound) × HasOutput n q input out × Appends before after (canonical_wav out)
Runs n q input before after (Err Write) = WritesFront n q input before after
Runs n q input before after (Err OutOfMemory) = Keeps before after ⊎ WritesText n q input before after
Runs n q input before after (Err Read) = Keeps before after ⊎ WritesText n q input before after
Runs n q input before after (Err (Wav f)) =
    (HasFault input f × IsUnsized input × Keeps before after)
    ⊎ ((HasOutputFault n q input (Wav f) × Keeps before after)
    ⊎ (HasFault input f × WritesText n q input before after))
Runs n q input before after (Err f) = HasOutputFault n q input f × Keeps before after

-- the faults that a run returns: 1, 34 to 46, 47, 48, 59 and 60
abbrev pub IsProcessFault : Fault → Type 0
IsProcessFault OutOfMemory = Unit {0}
IsProcessFault (Wav f) = Unit {0}
IsProcessFault Read = Unit {0}
IsProcessFault Write = Unit {0}
IsProcessFault ChannelsMissing = Unit {0}
IsProcessFault RateNotWhole = Unit {0}
IsProcessFault f = ⊥

-- a WAV file was read, and exactly what is behind it is left
abbrev pub ReadsFile : List ℕ → List ℕ → Type 0
ReadsFile input left = (s : Sound) × IsWav input s left

-- the input was read as far as some frames of its content, and exactly what is behind these is left
abbrev pub ReadsInto : List ℕ → List ℕ → Type 0
ReadsInto input left = (r : ContentInValue) × (samples : List ℤ) × IsReadTo input r samples left

-- the input was read as far as it takes to know its number of frames: not into its content if the size of the data was
-- filled in, otherwise to its end
abbrev pub ReadsAnnounced : List ℕ → List ℕ → Type 0
ReadsAnnounced input left =
    (r : ContentInValue) × (samples : List ℤ) × IsReadTo input r samples left
    × ((r.size ≢ 0xFFFFFFFF → r.gone ≡ 0) × (r.size ≡ 0xFFFFFFFF → left ≡ []))

-- the input has this fault and lost a front, or the fault is of its output
abbrev pub IsRefused : FormatFault → List ℕ → List ℕ → Type 0
IsRefused f input left = (HasFault input f × LosesFront input left) ⊎ ReadsAnnounced input left

-- What is left in the reader. On Ok: what is behind the WAV file. If the writer failed: what is behind the samples that
-- were read. On a fault of the output: the content and what is behind it, or nothing if the size of the data was never
-- filled in. On any other fault: the input without some front.
abbrev pub Leaves : {X : Type 0} → Option (List ℕ) → Option (List ℕ) → Result X Fault → Type 0
Leaves old new (Ok x) = Known old new ReadsFile
Leaves old new (Err Write) = Known old new ReadsInto
Leaves old new (Err ChannelsMissing) = Known old new ReadsAnnounced
Leaves old new (Err RateNotWhole) = Known old new ReadsAnnounced
Leaves old new (Err (Wav f)) = Known old new (IsRefused f)
Leaves old new (Err f) = Known old new LosesFront

-- nothing was written, or a front of one canonical file
abbrev pub WritesSome : Option (List ℕ) → Option (List ℕ) → Type 0
WritesSome old new = Keeps old new ⊎ ((file : List ℕ) × IsCanonical file × AppendsFront old new file)

-- What was written, whatever the reader returns: one canonical file on Ok, a front of one if the writer failed, nothing
-- or a front if memory or the reader failed or the content is cut off, otherwise nothing.
abbrev pub WritesFile : {X : Type 0} → Option (List ℕ) → Option (List ℕ) → Result X Fault → Type 0
WritesFile old new (Ok x) = (file : List ℕ) × IsCanonical file × Appends old new file
WritesFile old new (Err Write) = (file : List ℕ) × IsCanonical file × AppendsFront old new file
WritesFile old new (Err OutOfMemory) = WritesSome old new
WritesFile old new (Err Read) = WritesSome old new
WritesFile old new (Err (Wav Truncated)) = WritesSome old new
WritesFile old new (Err f) = Keeps old new

-- the number of the reader's failures: one more if it is blamed, otherwise unchanged
abbrev pub reader_failures : {X : Type 0} → Result X Fault → ℕ → ℕ
reader_failures (Err Read) failures = one_more failures
reader_failures result failures = failures

-- the number of the writer's failures: one more if it is blamed, otherwise unchanged
abbrev pub writer_failures : {X : Type 0} → Result X Fault → ℕ → ℕ
writer_failures (Err Write) failures = one_more failures
writer_failures result failures = failures

-- all that a run's result says of the two devices, whatever was to be run
pub record Handles {X : Type 0} (r r' : ReaderState) (w w' : WriterState) (result : Result X Fault) : Type 0 where
  -- no other fault is returned, whatever is known of the bytes
  pub faults : IfErr result IsProcessFault
  -- nothing behind the samples is read, and no sample is read before the tests that come first
  pub leaves : Leaves r.remaining r'.remaining result
  -- whatever the reader returns, one canonical file is written, or a front of one if the run stopped while or after
  -- it wrote the header, or nothing
  pub writes : WritesFile w.contents w'.contents result
  -- a device is blamed exactly if it failed in this call, and after its first failure it is not called again
  pub reader : r'.failures ≡ reader_failures result r.failures
  pub writer : w'.failures ≡ writer_failures result w.failures

-- memory or a device failed
abbrev pub IsFromOutside : Fault → Type 0
IsFromOutside f = (f ≡ OutOfMemory) ⊎ (f ≡ Read) ⊎ (f ≡ Write)

-- the fault is returned, if there is one, unless memory or a device failed
abbrev pub Refuses : Option Fault → Result (Unit {0}) Fault → Type 0
Refuses None (Ok x) = Unit {0}
Refuses None (Err e) = IsFromOutside e
Refuses (Some f) (Ok x) = ⊥
Refuses (Some f) (Err e) = (e ≡ f) ⊎ IsFromOutside e

-- all that the result of a run says: net n, repetition vector q, the reader before (r) and after (r'), the writer
-- before (w) and after (w')
pub record IsRun (n : Netlist Kit ℤ) (q : List ℕ) (r r' : ReaderState) (w w' : WriterState)
    (result : Result (Unit {0}) Fault) : Type 0 where
  -- what the result says is true, if the reader's bytes are known
  pub runs : WhereKnown r.remaining (λ input. Runs n q input w.contents w'.contents result)
  -- for a WAV file the result is Ok, or the fault of its output, unless memory or a device failed
  pub accepts : (input : List ℕ) (s : Sound) (rest : List ℕ) → r.remaining ≡ Some input → IsWav input s rest →
      Refuses (output_fault (io_rates_of n q) s) result
  -- the output's fault comes first if the size of the data says how long it would be, otherwise a fault of the input
  pub foresees : (input : List ℕ) (f : Format) (size : ℕ) (rest : List ℕ) (e : Fault) → r.remaining ≡ Some input →
      Opens input f size rest → size ≢ 0xFFFFFFFF →
      info_fault (io_rates_of n q) (size_info f size) ≡ Some e → Refuses (Some e) result
  pub refuses : (input : List ℕ) (f : FormatFault) → r.remaining ≡ Some input → HasFault input f →
      IsAllowed (io_rates_of n q) input → Refuses (Some (Wav f)) result
  -- the devices
  pub devices : Handles r r' w w' result
