-- A run before it takes its first frame.
use Rattle.std.proofs.Common.{◌≡◌, ℕ, ◌-◌, ◌*◌, ◌≤◌, ◌<◌, ℤ, List, [], false, refl, sym, ap, ◌∙◌, subst, arith, length}
use Rattle.std.proofs.Common.{sum, mul-le-mul_left}
use Rattle.std.proofs.Math.Seq.{drop-nil}
use Rattle.sdf_actor.specs.Nets.{Netlist}
use Rattle.sdf_actor.specs.Wires.{lists as items_of}
use Rattle.sdf_queues.specs.Laws.{RunsGoOn}
use Rattle.sdf_queues.specs.Periods.{HasPeriod}
use Rattle.sdf_kit.specs.declared.kit.Kit.{Kit}
use Rattle.sdf_kit.specs.Kit.{kit_steps}
use Rattle.sdf_actor.specs.Graphs.{graph_of}
use Rattle.sdf_graph.specs.Periods.{IsLeastPeriod}
use Rattle.sdf_graph.specs.Rates.{rates}
use Rattle.sdf_sched.specs.Period.{Schedule, IsPeriodOf}
use Rattle.sdf_wav.specs.Device.{ReaderState, WriterState}
use Rattle.sdf_wav.specs.PiecesIn.{ContentInValue, sound_read}
use Rattle.sdf_wav.specs.PiecesOut.{ContentOutValue}
use Rattle.sdf_wav.specs.declared.wav.TheConstants.{MAX_CHANNELS}
use Rattle.sdf_process.specs.declared.opened_output.OpenedOutput.{OpenedOutput}
use Rattle.sdf_process.specs.declared.io_rates.IoRates.{IoRates}
use Rattle.sdf_process.specs.declared.streaming.Opened.{Opened}
use Rattle.sdf_process.specs.declared.streaming.Stream.{Stream}
use Rattle.sdf_process.specs.Flows.{CameTo, CanFlow, Flows, GoesOn, Progress, Start, samples_run, start_of}
use Rattle.sdf_process.specs.Output.{io_rates_of, AreIoRates}
use Rattle.sdf_process.specs.Sources.{reading_of}
use Rattle.sdf_process.specs.Streams.{GoesBy, IsOpened, StandsAt, left_by}
use Rattle.sdf_process.specs.PlannedNets.{IsOpenedOutput}
use Rattle.sdf_process.proofs.Ahead.{none_ahead}
use Rattle.sdf_process.proofs.Opened.{frames_known}
use Rattle.sdf_process.proofs.Pieces.{appends_none}
use Rattle.sdf_process.proofs.Outcomes.{keeps_same}
use Rattle.sdf_process.proofs.Taken.{behind_none, takes_none}
use Rattle.sdf_process.proofs.Came.{allowed_lower, whole_size}
use Rattle.std.proofs.lemmas.List.Sums.{get_or-le-sum_by}
use Rattle.sdf_limits.specs.declared.TheConstants.{MAX_BLOCK}

-- a period has firings
some_firings : (n : Netlist Kit ℤ) (p : Schedule) → HasPeriod kit_steps n p → 1 ≤ sum p.repetitions
some_firings n p has =
    let few : 0 < length p.repetitions = omega (arith, has.period.least.is.all, has.shape.some) in
    omega (arith, has.period.least.is.positive 0 has.shape.some, get_or-le-sum_by (λ q. q) p.repetitions 0 0 few)

-- a block of few firings has few periods
few_blocks : (j firings : ℕ) → 1 ≤ firings → j * firings ≤ MAX_BLOCK → j ≤ MAX_BLOCK
few_blocks j firings some short =
    let more : j * 1 ≤ j * firings = mul-le-mul_left j some in
    omega (arith, more, short)

module _ (t : Opened) (is : IsOpened t)
    (has : (p : Schedule) → IsPeriodOf (rates (graph_of kit_steps t.net.now)) p → HasPeriod kit_steps t.net.now p)
    (b : OpenedOutput) (opened_output : IsOpenedOutput t.net.now t.period.now.repetitions b)
    (x : IoRates) (x_is : (q : List ℕ) → IsLeastPeriod (rates (graph_of kit_steps t.net.now)) q →
    x ≡ io_rates_of t.net.now q) (limits : AreIoRates x) where
  abbrev n : Netlist Kit ℤ
  n = t.net.now

  abbrev p : Schedule
  p = t.period.now

  abbrev c : ContentInValue
  c = reading_of b.source

  there : x ≡ io_rates_of n p.repetitions
  there = x_is p.repetitions is.period.least

  module _ (runs : RunsGoOn kit_steps) (r : ReaderState) (w : WriterState) where
    abbrev s : Start
    s = start_of t b r w

    few_bytes : 2 * (b.output.missing * (io_rates_of n p.repetitions).outputs) ≤ 4294967259
    few_bytes = subst (λ (m : ℕ). 2 * (m * (io_rates_of n p.repetitions).outputs) ≤ 4294967259)
        (sym (ap (λ (y : ContentOutValue). y.missing) opened_output.owed)) opened_output.output_size_is.few_bytes

    pub can_flow : CanFlow s
    can_flow =
        let here = frames_known c.size c.channels b.frames opened_output.unread_content.known in
        record {
          runs = runs;
          has = has p is.period;
          unread = opened_output.unread_content.unread;
          unspoilt = opened_output.unread_content.unspoilt;
          one = opened_output.unread_content.sound.one_channel;
          lower = allowed_lower (io_rates_of n p.repetitions)
              (record { rate = c.rate; channels = c.channels; frames = b.frames })
              opened_output.output_size_is.is_allowed;
          size = whole_size c b.frames opened_output.unread_content.sound here.0 here.1;
          known = here.0;
          fits = opened_output.unread_content.sound.size_fits;
          some = is.some;
          few = few_blocks t.blocking (sum p.repetitions) (some_firings n p (has p is.period)) is.fits;
          taken = subst (λ (y : IoRates). 0 < y.taken) there limits.some_taken;
          made = subst (λ (y : IoRates). 0 < y.made) there limits.some_made;
          outputs = omega (arith, (has p is.period).accepted.1.lists.output);
          owed = ap (λ (y : ContentOutValue). y.missing) opened_output.owed
              ∙ ap (λ (k : ℕ). k * (io_rates_of n p.repetitions).made) opened_output.output_size_is.periods;
          short = few_bytes;
        }

    -- nothing was taken
    abbrev none_yet : Progress
    none_yet = record { samples = []; blocks = 0; bytes = []; left = left_by t.runner }

    came_first : CameTo s none_yet
    came_first =
        let none : 0 ≡ 0 * t.blocking * (io_rates_of n p.repetitions).made = omega arith in
        record {
          stands = subst (λ (k : ℕ). StandsAt n p t.blocking (sound_read c []) 0 k [] (left_by t.runner)) none
              (is.stands (sound_read c []));
          there = omega arith;
        }

    flows_first : Flows s none_yet b.frames b.source b.output r w
    flows_first = record {
      came = came_first;
      takes = takes_none b.source r.remaining;
      source_is = behind_none b.source;
      within = omega arith;
      count = (let z : 0 ≡ 0 * c.channels = omega arith in z) ∙ ap (λ (k : ℕ). k * c.channels)
          (let y : 0 ≡ b.frames - b.frames = omega arith in y);
      written = appends_none w.contents w.contents (keeps_same w.contents);
      owed = opened_output.owed ∙ ap (λ (k : ℕ). record {
        channels = (io_rates_of n p.repetitions).outputs;
        missing = k;
        spent = false;
      }) (sym (ap (λ (y : ContentOutValue). y.missing) opened_output.owed)
          ∙ (let z : b.output.missing ≡ b.output.missing - 0 * t.blocking * (io_rates_of n p.repetitions).made =
          omega arith in z));
      reader = refl;
      writer = refl;
    }

    -- a run that is begun can go on
    pub goes_first : (v : Stream) → v.runner ≡ t.runner → v.flow.source ≡ b.source → v.flow.left ≡ b.frames →
        v.flow.most ≡ t.first → v.flow.kept.items ≡ [] → v.flow.made.items ≡ [] → v.flow.output ≡ b.output →
        v.io ≡ x → v.blocking ≡ t.blocking → 1 ≤ v.rate → v.channels ≡ c.channels → v.channels ≤ MAX_CHANNELS →
        GoesOn s v r w
    goes_first v runner source left most kept made output io blocking rate channels few =
        let none : items_of v.flow.made.items ≡ [] = ap items_of made in
        let flows : Flows s none_yet v.flow.left v.flow.source v.flow.output r w =
        rw (left, source, output) flows_first in (
          none_yet,
          record {
            ready = record {
              can = can_flow;
              goes = subst (GoesBy n p t.blocking) (sym runner) is.goes;
              blocking = blocking;
              channels = channels;
              few_channels = few;
              some_rate = rate;
              io = io ∙ there;
              limits = subst AreIoRates (sym io) limits;
              piece = subst (λ (k : ℕ). 0 < k) (sym most) is.first;
              waits = λ one. none;
            };
            ahead = none_ahead s none_yet v.flow none flows;
            left = ap left_by runner;
            kept = kept ∙ sym (drop-nil (samples_run s 0));
          },
        )
