-- A run that takes its input and writes its output as it goes.
use Rattle.std.specs.Prelude.{◌≡◌, ◌⊎◌, ℕ, ◌+◌, ◌*◌, ◌<◌, ◌≤◌, ℤ, List, [], ◌++◌, length, slice_index_or, Option, Some}
use Rattle.std.specs.Prelude.{Bool, Result, Ok, Err, false, is_some}
use Rattle.std.specs.Io.KnownBytes.{Appends}
use Rattle.sdf_graph.specs.Rates.{rates}
use Rattle.sdf_actor.specs.Graphs.{graph_of}
use Rattle.sdf_actor.specs.Nets.{Netlist}
use Rattle.sdf_actor.specs.Sides.{list_count}
use Rattle.sdf_actor.specs.declared.net_state.NetState.{NetState}
use Rattle.sdf_actor.specs.declared.sides.Lists.TheVariants.{Inputs, Outputs}
use Rattle.sdf_queues.specs.RunResults.{periods_of as firings}
use Rattle.sdf_queues.specs.Feeds.{HasRun}
use Rattle.sdf_queues.specs.Periods.{HasPeriod}
use Rattle.sdf_kit.specs.declared.kit.Kit.{Kit}
use Rattle.sdf_kit.specs.Kit.{kit_steps}
use Rattle.sdf_run.specs.Sessions.{SessionValue, IsLive}
use Rattle.sdf_prec.specs.Blocks.{IsShort}
use Rattle.sdf_sched.specs.Period.{Schedule, IsPeriodOf}
use Rattle.sdf_wav.specs.Canonical.{sample_bytes}
use Rattle.sdf_wav.specs.Device.{AppendsFront, one_more, ReaderState, WriterState}
use Rattle.sdf_wav.specs.PiecesIn.{ContentInValue, sound_read}
use Rattle.sdf_wav.specs.PiecesOut.{ContentOutValue}
use Rattle.sdf_wav.specs.Sound.{Sound, frames_of}
use Rattle.sdf_wav.specs.declared.wav.TheConstants.{MAX_CHANNELS}
use Rattle.sdf_faults.specs.declared.fault.Fault.{Fault}
use Rattle.sdf_faults.specs.declared.fault.Fault.TheVariants.{Write}
use Rattle.sdf_process.specs.declared.player.Player.{Player}
use Rattle.sdf_process.specs.declared.portion.Portion.{Portion}
use Rattle.sdf_process.specs.declared.source.Source.{Source}
use Rattle.sdf_process.specs.declared.streaming.Opened.{Opened}
use Rattle.sdf_process.specs.declared.runner.PieceRunner.{PieceRunner}
use Rattle.sdf_process.specs.declared.runner.PieceRunner.TheVariants as runner
use Rattle.sdf_process.specs.Output.{io_rates_of, in_turn, interleaved, lists_from, lists_to, periods_of}
use Rattle.sdf_process.specs.Run.{AreFrames}
use Rattle.sdf_process.specs.Sources.{reading_of, Takes, TakesAll}
use Rattle.sdf_process.specs.Stages.{PutsOutput}
use Rattle.sdf_process.specs.PlannedNets.{IsPlayer, partition_by}

-- Net n ran the first blocks of j periods of a sound: this is the net state that the run left, and these are the bytes
-- of the first frames that it made.
pub record StandsAt (n : Netlist Kit ℤ) (p : Schedule) (j : ℕ) (s : Sound) (blocks frames : ℕ) (bytes : List ℕ)
    (left : Option (NetState ℤ (List ℤ))) : Type 0 where
  pub made : List (List ℤ)
  pub rest : NetState ℤ (List ℤ)
  pub held : left ≡ Some rest
  pub run : HasRun kit_steps n (lists_to (blocks * j) (io_rates_of n p.repetitions) s)
      (firings p.repetitions (blocks * j)) made rest
  pub bytes_are : bytes ≡ sample_bytes (interleaved frames made)

-- the bytes are of all frames that the run made
abbrev pub StandsWhole : Netlist Kit ℤ → Schedule → ℕ → Sound → ℕ → List ℕ → Option (NetState ℤ (List ℤ)) → Type 0
StandsWhole n p j s blocks bytes left =
    StandsAt n p j s blocks (blocks * j * (io_rates_of n p.repetitions).made) bytes left

-- ---- the session or player of a run

-- a session of net n that is not spent, fed by blocks of j periods
pub record FeedsBy (n : Netlist Kit ℤ) (p : Schedule) (j : ℕ) (v : SessionValue Kit (List ℤ) ℤ) : Type 0 where
  pub live : IsLive v
  pub net : v.net ≡ n
  pub period : v.period ≡ p
  pub blocking : v.blocking ≡ j

-- a player of net n, whose blocks are single periods
pub record PlaysBy (n : Netlist Kit ℤ) (p : Schedule) (j : ℕ) (v : Player) : Type 0 where
  pub player : IsPlayer v
  pub net : v.net.now ≡ n
  pub period : v.period.now ≡ p
  pub single : j ≡ 1

abbrev pub GoesBy : Netlist Kit ℤ → Schedule → ℕ → PieceRunner → Type 0
GoesBy n p j (runner.Session v) = FeedsBy n p j v
GoesBy n p j (runner.Player v) = PlaysBy n p j v

-- the net state that the runner left, unless it is spent
abbrev pub left_by : PieceRunner → Option (NetState ℤ (List ℤ))
left_by (runner.Session v) = v.rest
left_by (runner.Player v) = Some v.rest

-- the runner runs parts in parallel, while frames are written and taken
abbrev pub is_in_parts : PieceRunner → Bool
is_in_parts (runner.Session v) = false
is_in_parts (runner.Player v) = is_some (partition_by v.manner)

-- all frames that a player makes are written
abbrev pub WritesOf : PieceRunner → ℕ → ℕ → Type 0
WritesOf (runner.Session v) made frames = Unit {0}
WritesOf (runner.Player v) made frames = frames ≡ made

-- the portion is the next blocks of a sound, after the first `few` were run
pub record Follows (n : Netlist Kit ℤ) (p : Schedule) (j : ℕ) (s : Sound) (few blocks : ℕ) (bytes : List ℕ)
    (left : Option (NetState ℤ (List ℤ))) (y : Portion) : Type 0 where
  pub stands : StandsWhole n p j s few bytes left
  pub periods : y.periods ≡ blocks * j
  pub lists : lists_from (few * j) y.periods (io_rates_of n p.repetitions) s ≡
      lists_from 0 y.periods (io_rates_of n p.repetitions) y.input.now

abbrev pub IsFollowed : Netlist Kit ℤ → Schedule → ℕ → Option (NetState ℤ (List ℤ)) → Portion → Type 0
IsFollowed n p j left y =
    (s : Sound) × (few : ℕ) × (blocks : ℕ) × (bytes : List ℕ) × Follows n p j s few blocks bytes left y

-- a net can be run on the portion
pub record CanRun (n : Netlist Kit ℤ) (p : Schedule) (j : ℕ) (y : Portion) : Type 0 where
  pub has : HasPeriod kit_steps n p
  pub some : 0 < j
  pub io : y.io ≡ io_rates_of n p.repetitions

-- lists of whole frames of this many channels, with this many frames in all
pub record AreWhole (channels frames : ℕ) (made : List (List ℤ)) : Type 0 where
  pub each : (i : ℕ) → i < length made → (k : ℕ) × (length (slice_index_or made i []) ≡ k * channels)
  pub all : length (in_turn made) ≡ frames * channels

-- lists of whole frames, no more than are owed
abbrev pub CanPut : ContentOutValue → List (List ℤ) → Type 0
CanPut o made = (frames : ℕ) × AreWhole o.channels frames made × (frames ≤ o.missing)

-- The next blocks were run behind the first `few`, and these are the first frames that they made.
pub record Makes (n : Netlist Kit ℤ) (p : Schedule) (j : ℕ) (s : Sound) (few blocks frames : ℕ) (bytes : List ℕ)
    (made : List (List ℤ)) (left : Option (NetState ℤ (List ℤ))) : Type 0 where
  pub stands : StandsAt n p j s (few + blocks) (few * j * (io_rates_of n p.repetitions).made + frames)
      (bytes ++ sample_bytes (in_turn made)) left
  pub whole : AreWhole (io_rates_of n p.repetitions).outputs frames made

-- the player plays the same net by the same period, with the same partition
abbrev pub StaysPlayer : Player → Player → Type 0
StaysPlayer v w = (w.net ≡ v.net) × (w.period ≡ v.period) × (partition_by w.manner ≡ partition_by v.manner)

-- a run that was not fed yet
pub record IsOpened (t : Opened) : Type 0 where
  pub period : IsPeriodOf (rates (graph_of kit_steps t.net.now)) t.period.now
  pub inputs : list_count Inputs t.net.now.nodes ≤ MAX_CHANNELS
  pub outputs : list_count Outputs t.net.now.nodes ≤ MAX_CHANNELS
  pub goes : GoesBy t.net.now t.period.now t.blocking t.runner
  pub stands : (s : Sound) → StandsAt t.net.now t.period.now t.blocking s 0 0 [] (left_by t.runner)
  pub some : 0 < t.blocking
  pub fits : IsShort t.blocking t.period.now.repetitions
  pub first : 0 < t.first
  pub piece : 0 < t.frames

-- ---- a runner that runs the next portion

-- the runner can run the portion, which follows what it ran
pub record CanRunNext (v : PieceRunner) (y : Portion) : Type 0 where
  pub net : Netlist Kit ℤ
  pub period : Schedule
  pub blocking : ℕ
  pub goes : GoesBy net period blocking v
  pub can : CanRun net period blocking y
  pub follows : IsFollowed net period blocking (left_by v) y
  pub all : WritesOf v (y.periods * y.io.made) y.frames

-- the runner ran the portion: whatever sound it ran, it made these frames of its next blocks
abbrev pub RunsNext : PieceRunner → PieceRunner → Portion → List (List ℤ) → Type 0
RunsNext v now y made = (n : Netlist Kit ℤ) (p : Schedule) (j : ℕ) (s : Sound) (few blocks : ℕ) (bytes : List ℕ) →
    GoesBy n p j v → CanRun n p j y → Follows n p j s few blocks bytes (left_by v) y →
    Makes n p j s few blocks y.frames bytes made (left_by now) × GoesBy n p j now

-- only the memory of the runner changes
abbrev pub StaysRunner : PieceRunner → PieceRunner → Type 0
StaysRunner v w = (left_by w ≡ left_by v) × ((n : Netlist Kit ℤ) (p : Schedule) (j : ℕ) → GoesBy n p j v →
    GoesBy n p j w) × (is_in_parts w ≡ is_in_parts v)

-- a session ran the portion: whatever sound it ran, it made these frames of its next blocks
abbrev pub FeedsNext : SessionValue Kit (List ℤ) ℤ → SessionValue Kit (List ℤ) ℤ → Portion → List (List ℤ) → Type 0
FeedsNext v now y made = (n : Netlist Kit ℤ) (p : Schedule) (j : ℕ) (s : Sound) (few blocks : ℕ) (bytes : List ℕ) →
    FeedsBy n p j v → CanRun n p j y → Follows n p j s few blocks bytes v.rest y →
    Makes n p j s few blocks y.frames bytes made now.rest × FeedsBy n p j now

-- a net can be played on the portion, from this state
abbrev pub CanPlay : Netlist Kit ℤ → Schedule → NetState ℤ (List ℤ) → Portion → Type 0
CanPlay n p rest y = (j : ℕ) × CanRun n p j y × IsFollowed n p j (Some rest) y

-- a net played the portion: whatever sound it played, it made these frames of the next blocks, and left this state
abbrev pub Plays : Netlist Kit ℤ → Schedule → NetState ℤ (List ℤ) → NetState ℤ (List ℤ) → Portion → List (List ℤ) →
    Type 0
Plays n p rest last y made = (j : ℕ) (s : Sound) (few blocks : ℕ) (bytes : List ℕ) →
    Follows n p j s few blocks bytes (Some rest) y → Makes n p j s few blocks y.frames bytes made (Some last)

-- a player can play the portion, from the state that it left
abbrev pub CanPlayNext : Player → Portion → Type 0
CanPlayNext v y = CanPlay v.net.now v.period.now v.rest y

abbrev pub PlaysNext : Player → Player → Portion → List (List ℤ) → Type 0
PlaysNext v now y made = Plays v.net.now v.period.now v.rest now.rest y made

-- A run that reads and writes as it goes came this far: these samples were read, and these are the bytes of the frames
-- that it made of the first `periods` periods of them.
pub record IsStream (n : Netlist Kit ℤ) (q : List ℕ) (c : ContentInValue) (samples : List ℤ) (periods : ℕ)
    (frames : List ℕ) : Type 0 where
  pub within : 2 * length samples ≤ c.size
  pub are_read : (periods * (io_rates_of n q).taken ≤ frames_of (sound_read c samples))
      ⊎ ((2 * length samples ≡ c.size) × (periods ≤ periods_of (io_rates_of n q) (sound_read c samples)))
  pub are_frames : AreFrames n q (sound_read c samples) periods frames

-- The whole sound was taken from the source and its whole output written; or the writer failed among the frames of what
-- was taken; or taking more failed, or memory was refused, behind some frames that were written.
abbrev pub Streams : Netlist Kit ℤ → List ℕ → Source → ReaderState → ReaderState → WriterState → WriterState →
    Result (Unit {0}) Fault → Type 0
Streams n q first r r' w w' (Ok x) =
    (s : Sound) × TakesAll first r r' (Ok s) × PutsOutput n q s w w' (Ok x)
Streams n q first r r' w w' (Err f) =
    (samples : List ℤ) × (periods : ℕ) × (frames : List ℕ) × (mid : Option (List ℕ))
    × IsStream n q (reading_of first) samples periods frames × Takes first samples r.remaining mid
    × (((f ≡ Write) × (mid ≡ r'.remaining) × AppendsFront w.contents w'.contents frames
    × (r'.failures ≡ r.failures) × (w'.failures ≡ one_more w.failures))
    ⊎ (TakesAll first r r' (Err f) × Appends w.contents w'.contents frames × (w'.failures ≡ w.failures)))
