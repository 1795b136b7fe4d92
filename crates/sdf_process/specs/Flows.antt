-- The progress of a run that takes its input and writes its output as it goes.
use Rattle.std.specs.Prelude.{◌≡◌, ◌≢◌, ℕ, ◌+◌, ◌-◌, ◌*◌, ◌<◌, ◌≤◌, min, ℤ, List, [], ◌++◌, length, drop, Option, None}
use Rattle.std.specs.Prelude.{Result, Err, IfOk, MatchResult, false}
use Rattle.std.specs.Io.KnownBytes.{Appends}
use Rattle.sdf_limits.specs.declared.TheConstants.{MAX_BLOCK}
use Rattle.sdf_actor.specs.Nets.{Netlist}
use Rattle.sdf_actor.specs.Wires.{lists as items_of}
use Rattle.sdf_actor.specs.declared.net_state.NetState.{NetState}
use Rattle.sdf_queues.specs.Laws.{RunsGoOn}
use Rattle.sdf_queues.specs.Periods.{HasPeriod}
use Rattle.sdf_kit.specs.declared.kit.Kit.{Kit}
use Rattle.sdf_kit.specs.Kit.{kit_steps}
use Rattle.sdf_sched.specs.Period.{Schedule}
use Rattle.sdf_wav.specs.Canonical.{sample_bytes}
use Rattle.sdf_wav.specs.Device.{ReaderState, WriterState}
use Rattle.sdf_wav.specs.PiecesIn.{ContentInValue, sound_read}
use Rattle.sdf_wav.specs.PiecesOut.{ContentOutValue}
use Rattle.sdf_wav.specs.declared.wav.TheConstants.{MAX_CHANNELS}
use Rattle.sdf_faults.specs.declared.fault.Fault.{Fault}
use Rattle.sdf_process.specs.declared.opened_output.OpenedOutput.{OpenedOutput}
use Rattle.sdf_process.specs.declared.io_rates.IoRates.{IoRates}
use Rattle.sdf_process.specs.declared.flow.Flow.{Flow}
use Rattle.sdf_process.specs.declared.portion.Portion.{Portion}
use Rattle.sdf_process.specs.declared.source.Source.{Source}
use Rattle.sdf_process.specs.declared.streaming.Opened.{Opened}
use Rattle.sdf_process.specs.declared.streaming.Stream.{Stream}
use Rattle.sdf_process.specs.Output.{io_rates_of, in_turn, periods_for, AreIoRates}
use Rattle.sdf_process.specs.Sources.{reading_of, source_behind, Takes}
use Rattle.sdf_process.specs.Streams.{AreWhole, Follows, GoesBy, StandsWhole, Streams, is_in_parts, left_by}

-- The start of a run: its net, a period, and the number of periods in a block; the source of its sound, the number of
-- frames that this has, and the number of frames that are owed for it; the reader and the writer.
pub record Start : Type 0 where
  pub net : Netlist Kit ℤ
  pub period : Schedule
  pub blocking : ℕ
  pub source : Source
  pub frames : ℕ
  pub owed : ℕ
  pub reader : ReaderState
  pub writer : WriterState

abbrev pub start_of : Opened → OpenedOutput → ReaderState → WriterState → Start
start_of t b r w = record {
  net = t.net.now;
  period = t.period.now;
  blocking = t.blocking;
  source = b.source;
  frames = b.frames;
  owed = b.output.missing;
  reader = r;
  writer = w;
}

abbrev pub reading_in : Start → ContentInValue
reading_in b = reading_of b.source

abbrev pub io_rates_in : Start → IoRates
io_rates_in b = io_rates_of b.net b.period.repetitions

-- the result of a run with this start, which leaves the devices in these states
abbrev pub StreamsFrom : Start → ReaderState → WriterState → Result (Unit {0}) Fault → Type 0
StreamsFrom b r w result = Streams b.net b.period.repetitions b.source b.reader r b.writer w result

-- what is known of the sound and of the output before any frame is taken
pub record CanFlow (b : Start) : Type 0 where
  pub runs : RunsGoOn kit_steps
  pub has : HasPeriod kit_steps b.net b.period
  pub unread : (reading_in b).gone ≡ 0
  pub unspoilt : (reading_in b).fault ≡ None
  pub one : 0 < (reading_in b).channels
  pub lower : (io_rates_in b).inputs ≤ (reading_in b).channels
  pub size : 2 * (b.frames * (reading_in b).channels) ≡ (reading_in b).size
  pub known : (reading_in b).size ≢ 0xFFFFFFFF
  pub fits : (reading_in b).size ≤ 0xFFFFFFFF
  pub some : 0 < b.blocking
  pub few : b.blocking ≤ MAX_BLOCK
  pub taken : 0 < (io_rates_in b).taken
  pub made : 0 < (io_rates_in b).made
  pub outputs : 0 < (io_rates_in b).outputs
  pub owed : b.owed ≡ periods_for (io_rates_in b) b.frames * (io_rates_in b).made
  pub short : 2 * (b.owed * (io_rates_in b).outputs) ≤ 4294967259

-- The progress of a run: the samples that were taken, the blocks of them that were run, the bytes of the frames that
-- these make, and the net state that they leave.
pub record Progress : Type 0 where
  pub samples : List ℤ
  pub blocks : ℕ
  pub bytes : List ℕ
  pub left : Option (NetState ℤ (List ℤ))

-- the number of samples that this many blocks take
abbrev pub samples_run : Start → ℕ → ℕ
samples_run b blocks = blocks * b.blocking * (io_rates_in b).taken * (reading_in b).channels

-- the run made this progress
pub record CameTo (b : Start) (g : Progress) : Type 0 where
  pub stands : StandsWhole b.net b.period b.blocking (sound_read (reading_in b) g.samples) g.blocks g.bytes g.left
  pub there : samples_run b g.blocks ≤ length g.samples

-- All frames that were made so far are written. `unread` frames are still to be taken, and o is what is owed.
pub record Flows (b : Start) (g : Progress) (unread : ℕ) (source : Source) (o : ContentOutValue) (r : ReaderState)
    (w : WriterState) : Type 0 where
  pub came : CameTo b g
  pub takes : Takes b.source g.samples b.reader.remaining r.remaining
  pub source_is : source ≡ source_behind b.source g.samples
  pub within : unread ≤ b.frames
  pub count : length g.samples ≡ (b.frames - unread) * (reading_in b).channels
  pub written : Appends b.writer.contents w.contents g.bytes
  pub owed : o ≡ record {
    channels = (io_rates_in b).outputs;
    missing = b.owed - g.blocks * b.blocking * (io_rates_in b).made;
    spent = false;
  }
  pub reader : r.failures ≡ b.reader.failures
  pub writer : w.failures ≡ b.writer.failures

-- the progress g, after this many more blocks
abbrev pub blocks_on : Progress → ℕ → List ℕ → Option (NetState ℤ (List ℤ)) → Progress
blocks_on g more bytes left =
    record { samples = g.samples; blocks = g.blocks + more; bytes = g.bytes ++ bytes; left = left }

-- The frames of some blocks were written, and the frames of the blocks behind them are made.
pub record IsAhead (b : Start) (g : Progress) (f : Flow) (r : ReaderState) (w : WriterState) : Type 0 where
  pub before : Progress
  pub flows : Flows b before f.left f.source f.output r w
  pub more : ℕ
  pub is : g ≡ blocks_on before more (sample_bytes (in_turn (items_of f.made.items))) g.left
  pub came : CameTo b g
  pub whole : AreWhole (io_rates_in b).outputs (more * b.blocking * (io_rates_in b).made) (items_of f.made.items)

-- the progress g, after these samples more were taken
abbrev pub samples_on : Progress → List ℤ → Progress
samples_on g more = record { samples = g.samples ++ more; blocks = g.blocks; bytes = g.bytes; left = g.left }

-- all frames that were made are written
pub record Writes (b : Start) (g : Progress) (f f' : Flow) (r : ReaderState) (w : WriterState) : Type 0 where
  pub flows : Flows b g f'.left f'.source f'.output r w
  pub none : items_of f'.made.items ≡ []
  pub kept : f'.kept ≡ f.kept
  pub left : f'.left ≡ f.left
  pub most : f'.most ≡ f.most

-- the next frames are taken: all that are left, or the most that may be taken at a time
pub record TakesNext (b : Start) (g : Progress) (f f' : Flow) (r : ReaderState) (w : WriterState) : Type 0 where
  pub more : List ℤ
  pub flows : Flows b (samples_on g more) f'.left f'.source f'.output r w
  pub kept : f'.kept.items ≡ f.kept.items ++ more
  pub made : f'.made ≡ f.made
  pub left : f'.left ≡ f.left - min f.most f.left
  pub most : f'.most ≡ f.most

-- all frames that were made are written, and then the next frames are taken
pub record Turns (b : Start) (g : Progress) (f f' : Flow) (r : ReaderState) (w : WriterState) : Type 0 where
  pub more : List ℤ
  pub flows : Flows b (samples_on g more) f'.left f'.source f'.output r w
  pub kept : f'.kept.items ≡ f.kept.items ++ more
  pub none : items_of f'.made.items ≡ []
  pub left : f'.left ≡ f.left - min f.most f.left
  pub most : f'.most ≡ f.most

-- some run came this far, and can write its frames and take the next ones
abbrev pub CanTurn : Flow → ReaderState → WriterState → Type 0
CanTurn f r w = (b : Start) × (g : Progress) × CanFlow b × IsAhead b g f r w

-- every run that came this far writes its frames and takes the next ones, or ends by a fault
pub record TurnsAll (f f' : Flow) (r r' : ReaderState) (w w' : WriterState) (result : Result (Unit {0}) Fault) :
    Type 0 where
  pub turns : (b : Start) (g : Progress) → CanFlow b → IsAhead b g f r w →
      MatchResult result (λ x. Turns b g f f' r' w') (λ e. StreamsFrom b r' w' (Err e))

-- ---- the whole state of a run

-- the run can go on
pub record IsReady (b : Start) (t : Stream) : Type 0 where
  pub can : CanFlow b
  pub goes : GoesBy b.net b.period b.blocking t.runner
  pub blocking : t.blocking ≡ b.blocking
  pub channels : t.channels ≡ (reading_in b).channels
  pub few_channels : t.channels ≤ MAX_CHANNELS
  pub some_rate : 1 ≤ t.rate
  pub io : t.io ≡ io_rates_in b
  pub limits : AreIoRates t.io
  pub piece : 0 < t.flow.most
  -- frames wait to be written only while parts are run
  pub waits : is_in_parts t.runner ≡ false → items_of t.flow.made.items ≡ []

-- the run made this progress, and keeps the samples behind it
pub record IsUnderWay (b : Start) (g : Progress) (t : Stream) (r : ReaderState) (w : WriterState) : Type 0 where
  pub ready : IsReady b t
  pub ahead : IsAhead b g t.flow r w
  pub left : left_by t.runner ≡ g.left
  pub kept : t.flow.kept.items ≡ drop (samples_run b g.blocks) g.samples

abbrev pub GoesOn : Start → Stream → ReaderState → WriterState → Type 0
GoesOn b t r w = (g : Progress) × IsUnderWay b g t r w

-- every run that came this far goes on, or ends by a fault
abbrev pub KeepsGoing : Stream → Stream → ReaderState → ReaderState → WriterState → WriterState →
    Result (Unit {0}) Fault → Type 0
KeepsGoing t t' r r' w w' result = (b : Start) → GoesOn b t r w →
    MatchResult result (λ x. GoesOn b t' r' w') (λ e. StreamsFrom b r' w' (Err e))

-- up to `most` of the frames that are left were taken
abbrev pub TakesMost : Flow → Flow → Result (Unit {0}) Fault → Type 0
TakesMost f f' result = IfOk result (λ x. f'.left ≡ f.left - min f.most f.left)

-- ---- its next blocks

-- the portion is all of the next blocks
pub record IsNext (b : Start) (g : Progress) (blocks : ℕ) (t : Stream) (y : Portion) : Type 0 where
  pub follows : Follows b.net b.period b.blocking (sound_read (reading_in b) g.samples) g.blocks blocks g.bytes
      (left_by t.runner) y
  pub io : y.io ≡ io_rates_in b
  pub frames : y.frames ≡ y.periods * y.io.made
  pub there : samples_run b (g.blocks + blocks) ≤ length g.samples

-- a run whose kept samples are those behind the portion
pub record IsStep (b : Start) (g : Progress) (blocks : ℕ) (t : Stream) (y : Portion) (r : ReaderState)
    (w : WriterState) : Type 0 where
  pub ready : IsReady b t
  pub ahead : IsAhead b g t.flow r w
  pub next : IsNext b g blocks t y
  pub kept : t.flow.kept.items ≡ drop (samples_run b (g.blocks + blocks)) g.samples

-- some run can take this step
abbrev pub CanStep : Stream → Portion → ReaderState → WriterState → Type 0
CanStep t y r w = (b : Start) × (g : Progress) × (blocks : ℕ) × IsStep b g blocks t y r w

-- every run that can take this step goes on, or ends by a fault
abbrev pub StepsOn : Stream → Stream → Portion → ReaderState → ReaderState → WriterState → WriterState →
    Result (Unit {0}) Fault → Type 0
StepsOn t t' y r r' w w' result = (b : Start) (g : Progress) (blocks : ℕ) → IsStep b g blocks t y r w →
    MatchResult result (λ x. GoesOn b t' r' w') (λ e. StreamsFrom b r' w' (Err e))
