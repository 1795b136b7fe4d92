-- How a run begins by its plan: by a session, or by a player, whose sound may be taken whole before.
use Rattle.std.proofs.Common.{◌≡◌, ◌≢◌, ℕ, ℤ, ◌*◌, ◌≤◌, ◌<◌, List, [], length, sum, Result, Ok, sym, ap, subst, arith}
use Rattle.sdf_limits.specs.declared.TheConstants.{MAX_BLOCK, MAX_PERIOD}
use Rattle.sdf_actor.specs.Nets.{Netlist}
use Rattle.sdf_kit.specs.declared.kit.Kit.{Kit}
use Rattle.sdf_kit.specs.Kit.{kit_steps}
use Rattle.sdf_run.specs.Sessions.{SessionValue}
use Rattle.sdf_sched.specs.Period.{Schedule}
use Rattle.sdf_wav.specs.Device.{ReaderState, WriterState}
use Rattle.sdf_wav.specs.PiecesIn.{ContentInValue, sound_read}
use Rattle.sdf_wav.specs.Sound.{Sound}
use Rattle.sdf_wav.specs.declared.wav.TheConstants.{MAX_CHANNELS}
use Rattle.sdf_faults.specs.declared.fault.Fault.{Fault}
use Rattle.sdf_process.specs.declared.opened_output.OpenedOutput.{OpenedOutput}
use Rattle.sdf_process.specs.declared.source.Source.TheVariants.{Decoded}
use Rattle.sdf_process.specs.Output.{io_rates_of, IsOutputSize}
use Rattle.sdf_process.specs.Sources.{reading_of, Takes, TakesAll}
use Rattle.sdf_process.specs.Stages.{PutsOutput}
use Rattle.sdf_process.specs.Streams.{FeedsBy, StandsAt, Streams}
use Rattle.sdf_process.specs.PlannedNets.{IsOpenedOutput, IsPlayerPlan}
use Rattle.sdf_process.proofs.Came.{allowed_lower, whole_size}
use Rattle.sdf_process.proofs.Opened.{frames_known}
use Rattle.sdf_process.proofs.Taken.{heard_puts, taken_whole, unheard_sound, whole_streams}
use Rattle.sdf_graph.specs.Rates.{rates}
use Rattle.sdf_graph.proofs.Theorems.{one_least_period}
use Rattle.sdf_actor.specs.Graphs.{graph_of}
use Rattle.sdf_actor.specs.NetFaults.{WasAccepted}
use Rattle.sdf_process.specs.declared.player.PlayerPlan.{PlayerPlan}

-- ---- a session

-- it is not spent, if it stands after nothing
pub session_goes : (n : Netlist Kit ℤ) (p : Schedule) (j : ℕ) (v : SessionValue Kit (List ℤ) ℤ) →
    (v.net ≡ n) × (v.period ≡ p) × (v.blocking ≡ j) → ((s : Sound) → StandsAt n p j s 0 0 [] v.rest) →
    FeedsBy n p j v
session_goes n p j v is stands =
    let at = stands (record { rate = 0; channels = 0; samples = [] }) in
    record { live = (at.rest, at.held); net = is.0; period = is.1; blocking = is.2 }

-- ---- a player

-- its blocks, which are single periods, have few firings
pub one_short : (t : PlayerPlan) → IsPlayerPlan t → WasAccepted kit_steps t.net.now →
    1 * sum t.period.now.repetitions ≤ MAX_BLOCK
one_short t is accepted =
    let same : accepted.0 ≡ t.period.now.repetitions =
    one_least_period (rates (graph_of kit_steps t.net.now)) accepted.0 t.period.now.repetitions accepted.1.period
    is.least in
    let few : sum t.period.now.repetitions ≤ MAX_PERIOD = subst (λ q. sum q ≤ MAX_PERIOD) same accepted.1.short in
    omega (arith, few)

-- ---- a source that is taken whole before it is played

module _ (n : Netlist Kit ℤ) (q : List ℕ) (b : OpenedOutput) (opened_output : IsOpenedOutput n q b) (r r1 : ReaderState)
    (s : Sound) (takes : TakesAll b.source r r1 (Ok s)) where
  abbrev c : ContentInValue
  c = reading_of b.source

  whole : (2 * length s.samples ≡ c.size) × Takes b.source s.samples r.remaining r1.remaining
      × (sound_read c s.samples ≡ s) × (r1.failures ≡ r.failures)
  whole = taken_whole b.source r r1 s opened_output.unread_content.unread known takes
    where
      known : c.size ≢ 0xFFFFFFFF
      known = (frames_known c.size c.channels b.frames opened_output.unread_content.known).0

  rate_is : c.rate ≡ s.rate
  rate_is = ap (λ (y : Sound). y.rate) whole.2

  channels_is : c.channels ≡ s.channels
  channels_is = ap (λ (y : Sound). y.channels) whole.2

  -- its output is opened as before
  pub heard_begun : IsOpenedOutput n q (record { source = Decoded s 0; frames = b.frames; output = b.output })
  heard_begun = record {
    unread_content = unheard_sound s b.frames (subst (λ (k : ℕ). 1 ≤ k) rate_is
        opened_output.unread_content.sound.some_rate)
        (subst (λ (k : ℕ). 1 ≤ k) channels_is opened_output.unread_content.sound.one_channel)
        (subst (λ (k : ℕ). k ≤ MAX_CHANNELS) channels_is opened_output.unread_content.sound.few_channels)
        (omega (
          arith,
          whole.0,
          whole_size c b.frames opened_output.unread_content.sound
              (frames_known c.size c.channels b.frames opened_output.unread_content.known).0
              (frames_known c.size c.channels b.frames opened_output.unread_content.known).1,
          ap (λ (k : ℕ). b.frames * k) channels_is,
        ))
        (omega (arith, whole.0, opened_output.unread_content.sound.size_fits));
    output_size = opened_output.output_size;
    output_size_is = subst (λ (k : ℕ). IsOutputSize (io_rates_of n q)
        (record { rate = s.rate; channels = k; frames = b.frames }) opened_output.output_size) channels_is
        (subst (λ (k : ℕ). IsOutputSize (io_rates_of n q)
        (record { rate = k; channels = c.channels; frames = b.frames }) opened_output.output_size) rate_is
        opened_output.output_size_is);
    owed = opened_output.owed;
  }

  -- what is played of it is played of the source
  pub heard_streams : 0 < (io_rates_of n q).taken → (r' : ReaderState) (w w' : WriterState)
      (result : Result (Unit {0}) Fault) → Streams n q (Decoded s 0) r1 r' w w' result →
      Streams n q b.source r r' w w' result
  heard_streams some r' w w' result streams =
      subst (λ (x : ReaderState). Streams n q b.source r x w w' result) (sym puts.1)
      (whole_streams n q b.source r r1 s opened_output.unread_content.unread
      (frames_known c.size c.channels b.frames opened_output.unread_content.known).0 takes w w' result puts.0)
    where
      puts : PutsOutput n q s w w' result × (r' ≡ r1)
      puts = heard_puts n q s (subst (λ (k : ℕ). 1 ≤ k) channels_is opened_output.unread_content.sound.one_channel)
          (subst (λ (k : ℕ). (io_rates_of n q).inputs ≤ k) channels_is
          (allowed_lower (io_rates_of n q)
          (record { rate = c.rate; channels = c.channels; frames = b.frames })
          opened_output.output_size_is.is_allowed)) some
          r1 r' w w' result streams
