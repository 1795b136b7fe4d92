-- A step of a run: its next blocks are run, what is made is written, and the next frames are taken.
use Rattle.std.proofs.Common.{◌≡◌, Result, Ok, Err, ℕ, ◌+◌, ◌-◌, ◌*◌, ◌/◌, ◌%◌, ◌≤◌, ◌<◌, ℤ, List, [], ◌++◌, length}
use Rattle.std.proofs.Common.{drop, false, true, refl, sym}
use Rattle.std.specs.Prelude.{IfOk, MatchResult}
use Rattle.std.specs.Int.{div_ceil}
use Rattle.std.proofs.Math.Nat.{mul-mod_left}
use Rattle.std.proofs.Common.{ap, ◌∙◌, subst, arith}
use Rattle.std.proofs.lemmas.Grind.{div_ceil_times}
use Rattle.std.proofs.lemmas.List.{drop-drop, length-append, length-drop}
use Rattle.sdf_actor.specs.Wires.{lists as items_of}
use Rattle.sdf_wav.specs.Device.{ReaderState, WriterState}
use Rattle.sdf_wav.specs.Canonical.{sample_bytes}
use Rattle.sdf_wav.specs.PiecesIn.{ContentInValue, sound_read}
use Rattle.sdf_wav.specs.PiecesOut.{ContentOutValue}
use Rattle.sdf_faults.specs.declared.fault.Fault.{Fault}
use Rattle.sdf_process.specs.declared.io_rates.IoRates.{IoRates}
use Rattle.sdf_process.specs.declared.flow.Flow.{Flow}
use Rattle.sdf_process.specs.declared.portion.Portion.{Portion}
use Rattle.sdf_process.specs.declared.runner.PieceRunner.{PieceRunner}
use Rattle.sdf_process.specs.declared.streaming.Stream.{Stream}
use Rattle.sdf_process.specs.Flows.{Flows, GoesOn, IsAhead, IsReady, IsStep, IsUnderWay, Progress, Start, Turns}
use Rattle.sdf_process.specs.Flows.{blocks_on}
use Rattle.sdf_process.specs.Flows.{io_rates_in, reading_in, samples_on, samples_run}
use Rattle.sdf_process.specs.Output.{in_turn}
use Rattle.sdf_process.specs.Streams.{CanRun, CanRunNext, GoesBy, Makes, RunsNext, is_in_parts, left_by}
use Rattle.sdf_process.proofs.Ahead.{made_ahead, none_ahead, none_left}
use Rattle.sdf_process.proofs.Flowing.{within_size}
use Rattle.sdf_process.proofs.Sizes.{frames_small, minus, periods_small, positive}
use Rattle.sdf_process.proofs.Streamed.{kept_follows, kept_on, stands_on, writes_whole}

-- what is said of an answer, in other words where it is Ok
pub answered : {X : Type 0} (r : Result X Fault) (P Q : X → Type 0) (E : Fault → Type 0) → ((x : X) → P x → Q x) →
    MatchResult r P E → MatchResult r Q E
answered (Ok x) P Q E go h = go x h
answered (Err e) P Q E go h = h

pub where_ok : {X : Type 0} (r : Result X Fault) (P Q : X → Type 0) (E : Fault → Type 0) → ((x : X) → P x → Q x) →
    MatchResult r P E → IfOk r Q
where_ok (Ok x) P Q E go h = go x h
where_ok (Err e) P Q E go h = tt

-- a run that is ready is so with another runner of its net, and another flow
pub ready_on : (b : Start) (t : Stream) → IsReady b t → (v : PieceRunner) (f : Flow) →
    GoesBy b.net b.period b.blocking v →
    f.most ≡ t.flow.most → (is_in_parts v ≡ false → items_of f.made.items ≡ []) → IsReady b (record {
      runner = v;
      flow = f;
      io = t.io;
      blocking = t.blocking;
      rate = t.rate;
      channels = t.channels;
    })
ready_on b t ready v f goes most waits = record {
  can = ready.can;
  goes = goes;
  blocking = ready.blocking;
  channels = ready.channels;
  few_channels = ready.few_channels;
  some_rate = ready.some_rate;
  io = ready.io;
  limits = ready.limits;
  piece = subst (λ (k : ℕ). 0 < k) (sym most) ready.piece;
  waits = waits;
}

-- a flow is as far ahead as another that differs in what it keeps alone
pub ahead_as : (b : Start) (g : Progress) (f f' : Flow) {r : ReaderState} {w : WriterState} → f'.left ≡ f.left →
    f'.source ≡ f.source → f'.output ≡ f.output → f'.made ≡ f.made → IsAhead b g f r w →
    IsAhead b g f' r w
ahead_as b g f f' left source output made ahead = record {
  before = ahead.before;
  flows = rw (left, source, output) ahead.flows;
  more = ahead.more;
  is = rw made ahead.is;
  came = ahead.came;
  whole = rw made ahead.whole;
}

-- a run goes on also if it is to take another number of frames at a time
pub goes_by_pieces : (b : Start) (t : Stream) {r : ReaderState} {w : WriterState} (most : ℕ) → 0 < most →
    GoesOn b t r w → GoesOn b (record {
      runner = t.runner;
      flow = record {
        source = t.flow.source;
        left = t.flow.left;
        most = most;
        kept = t.flow.kept;
        made = t.flow.made;
        spare = t.flow.spare;
        output = t.flow.output;
      };
      io = t.io;
      blocking = t.blocking;
      rate = t.rate;
      channels = t.channels;
    }) r w
goes_by_pieces b t most some (g, under) = (
  g,
  record {
    ready = record {
      can = under.ready.can;
      goes = under.ready.goes;
      blocking = under.ready.blocking;
      channels = under.ready.channels;
      few_channels = under.ready.few_channels;
      some_rate = under.ready.some_rate;
      io = under.ready.io;
      limits = under.ready.limits;
      piece = some;
      waits = under.ready.waits;
    };
    ahead = ahead_as b g t.flow _ refl refl refl refl under.ahead;
    left = under.left;
    kept = under.kept;
  },
)

module _ (b : Start) (g : Progress) (blocks : ℕ) (t : Stream) (y : Portion) {r : ReaderState} {w : WriterState}
    (step : IsStep b g blocks t y r w) where
  can_run : CanRun b.net b.period b.blocking y
  can_run = record { has = step.ready.can.has; some = step.ready.can.some; io = step.next.io }

  -- its runner can run the portion
  pub can_next : CanRunNext t.runner y
  can_next = record {
    net = b.net;
    period = b.period;
    blocking = b.blocking;
    goes = step.ready.goes;
    can = can_run;
    follows = (sound_read (reading_in b) g.samples, g.blocks, blocks, g.bytes, step.next.follows);
    all = writes_whole t.runner (y.periods * y.io.made) y.frames step.next.frames;
  }

  all_frames : y.frames ≡ blocks * b.blocking * (io_rates_in b).made
  all_frames = step.next.frames ∙ (ap (λ (k : ℕ). k * y.io.made) step.next.follows.periods
      ∙ ap (λ (x : _). blocks * b.blocking * x.made) step.next.io)

  module _ (v : PieceRunner) (made : List (List ℤ)) (runs : RunsNext t.runner v y made) where
    ran : Makes b.net b.period b.blocking (sound_read (reading_in b) g.samples) g.blocks blocks y.frames g.bytes made
        (left_by v) × GoesBy b.net b.period b.blocking v
    ran = runs b.net b.period b.blocking (sound_read (reading_in b) g.samples) g.blocks blocks g.bytes step.ready.goes
        can_run step.next.follows

    abbrev on : Progress
    on = blocks_on g blocks (sample_bytes (in_turn made)) (left_by v)

    -- its frames are ahead of those that are written, if all before are written
    pub ahead_on : items_of t.flow.made.items ≡ [] → (f : Flow) → items_of f.made.items ≡ made →
        f.left ≡ t.flow.left → f.source ≡ t.flow.source → f.output ≡ t.flow.output → IsAhead b on f r w
    ahead_on none f is left source output =
        let flows : Flows b g f.left f.source f.output r w =
        rw (left, source, output) (none_left b step.ready.can g t.flow step.ahead none) in
        subst (λ (l : List (List ℤ)). IsAhead b (blocks_on g blocks (sample_bytes (in_turn l))
        (left_by v)) f r w) is
        (made_ahead b g f blocks y.frames (left_by v)
        flows
        (subst (λ (l : List (List ℤ)). Makes b.net b.period b.blocking (sound_read (reading_in b) g.samples) g.blocks
        blocks y.frames g.bytes l (left_by v)) (sym is) ran.0) all_frames step.next.there)

    -- they are written, and more is taken
    pub in_turn_on : (f f' : Flow) {r' : ReaderState} {w' : WriterState} → f.kept ≡ t.flow.kept →
        f.most ≡ t.flow.most → Turns b on f f' r' w' → GoesOn b (record {
          runner = v;
          flow = f';
          io = t.io;
          blocking = t.blocking;
          rate = t.rate;
          channels = t.channels;
        }) r' w'
    in_turn_on f f' kept most turns = (
      samples_on on turns.more,
      record {
        ready = ready_on b t step.ready v f' ran.1 (turns.most ∙ most) (λ one. turns.none);
        ahead = none_ahead b (samples_on on turns.more) f' turns.none turns.flows;
        left = refl;
        kept = turns.kept ∙ (ap (λ (z : _). z.items ++ turns.more) kept
            ∙ kept_on (samples_run b (g.blocks + blocks)) g.samples turns.more t.flow.kept.items step.next.there
            step.kept);
      },
    )

    -- the frames before were written meanwhile, and more was taken
    pub beside_on : is_in_parts v ≡ true → (f f' : Flow) {r' : ReaderState} {w' : WriterState} →
        Turns b g t.flow f r' w' → items_of f'.made.items ≡ made → f'.left ≡ f.left →
        f'.source ≡ f.source → f'.output ≡ f.output → f'.kept ≡ f.kept → f'.most ≡ f.most → GoesOn b (record {
          runner = v;
          flow = f';
          io = t.io;
          blocking = t.blocking;
          rate = t.rate;
          channels = t.channels;
        }) r' w'
    beside_on at_once f f' {r'} {w'} turns is left source output kept most =
        let g' = samples_on g turns.more in
        let more = turns.more in
        let longer : samples_run b (g.blocks + blocks) ≤ length g'.samples =
        omega (arith, step.next.there, length-append g.samples more) in
        let makes : Makes b.net b.period b.blocking (sound_read (reading_in b) g'.samples) g.blocks blocks y.frames
        g.bytes (items_of f'.made.items) (left_by v) =
        subst (λ (l : List (List ℤ)). Makes b.net b.period b.blocking (sound_read (reading_in b) g'.samples) g.blocks
        blocks y.frames g.bytes l (left_by v)) (sym is) (record {
          stands = stands_on b.net b.period b.blocking (reading_in b) g.samples more (g.blocks + blocks)
              (g.blocks * b.blocking * (io_rates_in b).made + y.frames) (g.bytes ++ sample_bytes (in_turn made))
              (left_by v) step.ready.can.lower step.next.there ran.0.stands;
          whole = ran.0.whole;
        }) in
        let flows : Flows b g' f'.left f'.source f'.output r' w' =
        rw (left, source, output) turns.flows in (
          blocks_on g' blocks (sample_bytes (in_turn (items_of f'.made.items))) (left_by v),
          record {
            ready = ready_on b t step.ready v f' ran.1 (most ∙ turns.most)
                (λ no. absurd (let z : true ≡ false = sym at_once ∙ no in cc));
            ahead = made_ahead b g' f' blocks y.frames (left_by v) flows makes all_frames longer;
            left = refl;
            kept = ap (λ (z : _). z.items) kept ∙ (turns.kept
                ∙ kept_on (samples_run b (g.blocks + blocks)) g.samples more t.flow.kept.items step.next.there
                step.kept);
          },
        )

-- ---- what is missing

-- blocks that hold all frames that are missing, and not one too many
pub blocks_missing : (b : Start) (t : Stream) → IsReady b t → (o : ContentOutValue) (frames blocks : ℕ) →
    frames ≡ o.missing →
    blocks ≡ div_ceil frames (t.blocking * t.io.made) →
    (o.missing ≤ blocks * (b.blocking * (io_rates_in b).made))
    × (blocks * (b.blocking * (io_rates_in b).made) < o.missing + b.blocking * (io_rates_in b).made)
blocks_missing b t ready o frames blocks count is =
    let k : ℕ = t.blocking * t.io.made in
    let x = io_rates_in b in
    let same : k ≡ b.blocking * x.made = ap (λ z. z * t.io.made) ready.blocking
    ∙ ap (λ (y : IoRates). b.blocking * y.made) ready.io in
    let times = subst (λ z. (frames ≤ z * k) × (z * k < frames + k)) (sym is)
    (div_ceil_times frames k (omega (arith, same, positive b.blocking x.made ready.can.some ready.can.made))) in
    let size = ap (λ z. blocks * z) same in
    (omega (arith, times.0, count, size), omega (arith, times.1, count, size, same))

-- ---- what is kept

module _ (b : Start) (g : Progress) (t : Stream) {r : ReaderState} {w : WriterState}
    (under : IsUnderWay b g t r w) where
  abbrev c : ContentInValue
  c = reading_in b

  abbrev x : IoRates
  x = io_rates_in b

  samples_are : length g.samples ≡ (b.frames - t.flow.left) * c.channels
  samples_are = ap (λ (z : Progress). length z.samples) under.ahead.is ∙ under.ahead.flows.count

  kept_long : length t.flow.kept.items ≡ length g.samples - samples_run b g.blocks
  kept_long = ap length under.kept ∙ length-drop (samples_run b g.blocks) g.samples

  pub kept_whole : length t.flow.kept.items % t.channels ≡ 0
  kept_whole =
      let read : ℕ = b.frames - t.flow.left in
      let run : ℕ = g.blocks * b.blocking * x.taken in
      let factored : read * c.channels - run * c.channels ≡ (read - run) * c.channels = minus read run c.channels in
      subst (λ (k : ℕ). length t.flow.kept.items % k ≡ 0) (sym under.ready.channels)
      (ap (λ (k : ℕ). k % c.channels) (kept_long ∙ (ap (λ (k : ℕ). k - run * c.channels) samples_are ∙ factored))
      ∙ mul-mod_left (read - run) c.channels)

  pub kept_few : length t.flow.kept.items ≤ 4294967295
  kept_few =
      let size : 2 * length g.samples ≤ c.size =
      subst (λ (l : List ℤ). 2 * length l ≤ c.size) (sym (ap (λ (z : Progress). z.samples) under.ahead.is))
      (within_size b under.ready.can under.ahead.before under.ahead.flows) in
      omega (arith, kept_long, size, under.ready.can.fits)

  -- its whole blocks have few periods, which make few frames
  module _ (f len : ℕ) (same : f ≡ t.channels) (long : len ≡ length t.flow.kept.items) where
    abbrev blocks : ℕ
    blocks = len / (t.blocking * t.io.taken * f)

    pub periods_few : blocks * t.blocking ≤ 4294967295
    periods_few = periods_small t.blocking t.io.taken t.io.made f t.channels len
        (omega (arith, under.ready.blocking, under.ready.can.some)) under.ready.limits.some_taken
        under.ready.limits.few_made same (omega (arith, under.ready.channels, under.ready.can.one))
        (omega (arith, long, kept_few))

    pub frames_few : blocks * t.blocking * t.io.made ≤ 288230376084602880
    frames_few = frames_small t.blocking t.io.taken t.io.made f t.channels len
        (omega (arith, under.ready.blocking, under.ready.can.some)) under.ready.limits.some_taken
        under.ready.limits.few_made same (omega (arith, under.ready.channels, under.ready.can.one))
        (omega (arith, long, kept_few))

  -- the frames that were made are written, and more is taken
  pub turned_on : (f : Flow) {r' : ReaderState} {w' : WriterState} →
      Turns b g t.flow f r' w' → GoesOn b (record {
        runner = t.runner;
        flow = f;
        io = t.io;
        blocking = t.blocking;
        rate = t.rate;
        channels = t.channels;
      }) r' w'
  turned_on f turns = (
    samples_on g turns.more,
    record {
      ready = ready_on b t under.ready t.runner f under.ready.goes turns.most (λ one. turns.none);
      ahead = none_ahead b (samples_on g turns.more) f turns.none turns.flows;
      left = under.left;
      kept = turns.kept ∙ kept_on (samples_run b g.blocks) g.samples turns.more t.flow.kept.items under.ahead.came.there
          under.kept;
    },
  )

  -- a block of it
  pub block_is : (f : ℕ) → f ≡ t.channels →
      t.blocking * t.io.taken * f ≡ b.blocking * x.taken * c.channels
  block_is f same = ap (λ z. z * t.io.taken * f) under.ready.blocking
      ∙ (ap (λ (y : IoRates). b.blocking * y.taken * f) under.ready.io
      ∙ ap (λ z. b.blocking * x.taken * z) (same ∙ under.ready.channels))

  -- whole blocks of it
  module _ (blocks k : ℕ) (block : k ≡ b.blocking * x.taken * c.channels)
      (some : blocks * k ≤ length t.flow.kept.items) where
    past : samples_run b g.blocks + blocks * k ≡ samples_run b (g.blocks + blocks)
    past = ap (λ (z : ℕ). samples_run b g.blocks + blocks * z) block
        ∙ (let z : samples_run b g.blocks + blocks * (b.blocking * x.taken * c.channels) ≡
        samples_run b (g.blocks + blocks) = omega arith in z)

    there_more : samples_run b (g.blocks + blocks) ≤ length g.samples
    there_more = omega (arith, past, some, kept_long, under.ahead.came.there)

    pub step_by : (v : PieceRunner) (f : Flow) (y : Portion) (rest : List ℤ) → left_by v ≡ left_by t.runner →
        GoesBy b.net b.period b.blocking v → is_in_parts v ≡ is_in_parts t.runner → f.left ≡ t.flow.left →
        f.source ≡ t.flow.source →
        f.output ≡ t.flow.output → f.made ≡ t.flow.made → f.most ≡ t.flow.most →
        f.kept.items ≡ drop (blocks * k) t.flow.kept.items → y.io ≡ t.io →
        y.periods ≡ blocks * b.blocking → y.frames ≡ y.periods * y.io.made →
        y.input.now.channels ≡ t.channels → y.input.now.samples ≡ t.flow.kept.items → IsStep b g blocks (record {
          runner = v;
          flow = f;
          io = t.io;
          blocking = t.blocking;
          rate = t.rate;
          channels = t.channels;
        }) y r w
    step_by v f y rest same goes still left source output made most kept io periods frames channels samples =
        record {
          ready = ready_on b t under.ready v f goes most
              (λ one. ap (λ (z : _). items_of z.items) made ∙ under.ready.waits (sym still ∙ one));
          ahead = ahead_as b g t.flow f left source output made under.ahead;
          next = record {
            follows = kept_follows b g (left_by v) under.ahead.came (same ∙ under.left) y blocks periods
                (channels ∙ under.ready.channels) (samples ∙ under.kept);
            io = io ∙ under.ready.io;
            frames = frames;
            there = there_more;
          };
          kept = kept ∙ (ap (drop (blocks * k)) under.kept
              ∙ (drop-drop (blocks * k) (samples_run b g.blocks) g.samples ∙ ap (λ (z : ℕ). drop z g.samples) past));
        }

-- inputs are read
pub some_inputs : (b : Start) (t : Stream) → IsReady b t → 0 < t.io.inputs
some_inputs b t ready = subst (λ (y : IoRates). 0 < y.inputs) (sym ready.io)
    (omega (arith, ready.can.has.accepted.1.lists.input))

-- the net can be run on a portion
pub can_run_on : (b : Start) (t : Stream) → IsReady b t → (y : Portion) → y.io ≡ t.io →
    CanRun b.net b.period b.blocking y
can_run_on b t ready y same = record { has = ready.can.has; some = ready.can.some; io = same ∙ ready.io }
