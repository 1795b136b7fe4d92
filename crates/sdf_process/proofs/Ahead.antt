-- A run that is ahead of its output: the frames that are made and not written yet.
use Rattle.std.proofs.Common.{◌≡◌, inl, Err, ℕ, zero, suc, ◌+◌, ◌-◌, ◌*◌, ◌≤◌, ◌<◌, ℤ, List, [], ◌++◌, length, Option}
use Rattle.std.proofs.Common.{Vec, append-nil, false, refl, sym, ap, ◌∙◌, subst, arith}
use Rattle.std.specs.Io.KnownBytes.{Appends}
use Rattle.std.proofs.Math.Nat.{mul-le-mul_right}
use Rattle.sdf_actor.specs.Wires.{lists as items_of}
use Rattle.sdf_actor.specs.declared.net_state.NetState.{NetState}
use Rattle.sdf_wav.specs.Canonical.{sample_bytes}
use Rattle.sdf_wav.specs.Device.{AppendsFront, ReaderState, WriterState, one_more}
use Rattle.sdf_wav.specs.PiecesIn.{ContentInValue, sound_read}
use Rattle.sdf_wav.specs.PiecesOut.{ContentOutValue}
use Rattle.sdf_faults.specs.declared.fault.Fault.{Fault}
use Rattle.sdf_faults.specs.declared.fault.Fault.TheVariants.{Write}
use Rattle.sdf_process.specs.declared.io_rates.IoRates.{IoRates}
use Rattle.sdf_process.specs.declared.flow.Flow.{Flow}
use Rattle.sdf_process.specs.Flows.{CameTo, CanFlow, Flows, IsAhead, Progress, Start, StreamsFrom, blocks_on}
use Rattle.sdf_process.specs.Flows.{io_rates_in, reading_in, samples_run}
use Rattle.sdf_process.specs.Output.{in_turn, periods_for}
use Rattle.sdf_process.specs.Streams.{AreWhole, Makes, StandsAt, CanPut}
use Rattle.sdf_process.proofs.Came.{came_to}
use Rattle.sdf_process.proofs.Flowing.{within_size}
use Rattle.sdf_process.proofs.Outcomes.{appends_join, front_join, keeps_same}
use Rattle.sdf_process.proofs.Pieces.{appends_none}
use Rattle.sdf_process.proofs.Sizes.{cancel, less_twice, periods_fit}

-- no list has no frames
pub no_frames : (channels frames : ℕ) → frames ≡ 0 → AreWhole channels frames []
no_frames channels frames none = record {
  each = λ i l. absurd (omega (arith, l));
  all = (let z : 0 ≡ 0 * channels = omega arith in z) ∙ ap (λ (k : ℕ). k * channels) (sym none);
}

-- nothing is ahead
pub none_ahead : (b : Start) (g : Progress) (f : Flow) {r : ReaderState} {w : WriterState} →
    items_of f.made.items ≡ [] → Flows b g f.left f.source f.output r w → IsAhead b g f r w
none_ahead b g f none flows = record {
  before = g;
  flows = flows;
  more = 0;
  is = ap (λ (k : ℕ). record { samples = g.samples; blocks = k; bytes = g.bytes; left = g.left })
      (let z : g.blocks ≡ g.blocks + 0 = omega arith in z)
      ∙ ap (λ (y : List ℕ). record { samples = g.samples; blocks = g.blocks + 0; bytes = y; left = g.left })
      (sym (append-nil g.bytes) ∙ ap (λ (l : List (List ℤ)). g.bytes ++ sample_bytes (in_turn l)) (sym none));
  came = flows.came;
  whole = subst (AreWhole (io_rates_in b).outputs (0 * b.blocking * (io_rates_in b).made)) (sym none)
      (no_frames (io_rates_in b).outputs (0 * b.blocking * (io_rates_in b).made)
      (let z : 0 * b.blocking * (io_rates_in b).made ≡ 0 = omega arith in z));
}

-- whole frames can be written, if no fewer are owed
pub can_put : {Z : Type 0} (o : ContentOutValue) (channels frames : ℕ) (made ps : List (Vec ℤ Z)) →
    o.channels ≡ channels →
    ps ≡ made → AreWhole channels frames (items_of made) → frames ≤ o.missing → CanPut o (items_of ps)
can_put {Z} o channels frames made ps same is whole fewer = (frames, rw (is, same) whole, fewer)

module _ (b : Start) (can : CanFlow b) (g : Progress) (f : Flow) {r : ReaderState} {w : WriterState}
    (ahead : IsAhead b g f r w) where
  abbrev c : ContentInValue
  c = reading_in b

  abbrev x : IoRates
  x = io_rates_in b

  abbrev here : Flows b ahead.before f.left f.source f.output r w
  here = ahead.flows

  abbrev made : List (List ℤ)
  made = items_of f.made.items

  abbrev bytes : List ℕ
  bytes = sample_bytes (in_turn made)

  abbrev on : Progress
  on = blocks_on ahead.before ahead.more bytes g.left

  came_on : CameTo b on
  came_on = subst (CameTo b) ahead.is ahead.came

  -- there is room for them
  room : ahead.more * b.blocking * x.made ≤ f.output.missing
  room =
      let read : (b.frames - f.left) * c.channels ≤ b.frames * c.channels =
      mul-le-mul_right c.channels (let z : b.frames - f.left ≤ b.frames = omega arith in z) in
      let fit : (ahead.before.blocks + ahead.more) * b.blocking * x.taken ≤ b.frames =
      cancel ((ahead.before.blocks + ahead.more) * b.blocking * x.taken) b.frames c.channels can.one
      (omega (arith, came_on.there, here.count, read)) in
      let less : (ahead.before.blocks + ahead.more) * b.blocking * x.made ≤ periods_for x b.frames * x.made =
      mul-le-mul_right x.made
      (periods_fit ((ahead.before.blocks + ahead.more) * b.blocking) x.taken b.frames can.taken fit) in
      let parts : (ahead.before.blocks + ahead.more) * b.blocking * x.made ≡
      ahead.before.blocks * b.blocking * x.made + ahead.more * b.blocking * x.made = omega arith in
      omega (arith, less, parts, ap (λ (y : ContentOutValue). y.missing) here.owed, can.owed)

  channels_are : f.output.channels ≡ x.outputs
  channels_are = ap (λ (y : ContentOutValue). y.channels) here.owed

  all_frames : length (in_turn made) ≡ ahead.more * b.blocking * x.made * f.output.channels
  all_frames = ahead.whole.all ∙ ap (λ (k : ℕ). ahead.more * b.blocking * x.made * k) (sym channels_are)

  -- they can be written
  pub room_of : (ps : _) → ps ≡ f.made.items → CanPut f.output (items_of ps)
  room_of ps is =
      can_put f.output x.outputs (ahead.more * b.blocking * x.made) f.made.items ps channels_are is ahead.whole room

  pub frames_of : (ps : _) → ps ≡ f.made.items →
      length (in_turn (items_of ps)) ≡ ahead.more * b.blocking * x.made * f.output.channels
  frames_of ps is = rw is all_frames

  -- they are written
  pub wrote : (w' : WriterState) (o : ContentOutValue) → Appends w.contents w'.contents bytes →
      w'.failures ≡ w.failures →
      o ≡ record f.output { missing = f.output.missing - ahead.more * b.blocking * x.made } →
      Flows b g f.left f.source o r w'
  wrote w' o puts fine owed = subst (λ (z : Progress). Flows b z f.left f.source o r w') (sym ahead.is)
      (record {
        came = came_on;
        takes = here.takes;
        source_is = here.source_is;
        within = here.within;
        count = here.count;
        written = appends_join b.writer.contents w.contents w'.contents ahead.before.bytes bytes here.written puts;
        owed = owed ∙ ap (λ (y : ContentOutValue). record y
            { missing = y.missing - ahead.more * b.blocking * x.made }) here.owed
            ∙ ap (λ (k : ℕ). record { channels = x.outputs; missing = k; spent = false })
            (less_twice b.owed (ahead.before.blocks * b.blocking * x.made) (ahead.more * b.blocking * x.made)
            ((ahead.before.blocks + ahead.more) * b.blocking * x.made) (omega arith));
        reader = here.reader;
        writer = fine ∙ here.writer;
      })

  -- they are not
  pub writing_failed : (w' : WriterState) (e : Fault) → e ≡ Write → AppendsFront w.contents w'.contents bytes →
      w'.failures ≡ one_more w.failures → StreamsFrom b r w' (Err e)
  writing_failed w' e is front failed = (
    ahead.before.samples,
    (ahead.before.blocks + ahead.more) * b.blocking,
    ahead.before.bytes ++ bytes,
    r.remaining,
    came_to can.runs b.net b.period can.has b.blocking c ahead.before.samples (ahead.before.blocks + ahead.more)
        (ahead.before.bytes ++ bytes) g.left (within_size b can ahead.before here) can.one came_on.there came_on.stands,
    here.takes,
    inl (
      is,
      refl,
      front_join b.writer.contents w.contents w'.contents ahead.before.bytes bytes here.written front,
      here.reader,
      failed ∙ ap one_more here.writer,
    ),
  )

  -- if there are none, all is written
  pub none_left : made ≡ [] → Flows b g f.left f.source f.output r w
  none_left none =
      let no : ahead.more * b.blocking * x.made * x.outputs ≡ 0 =
      sym ahead.whole.all ∙ ap (λ (l : List (List ℤ)). length (in_turn l)) none in
      let zero_more : ahead.more * b.blocking * x.made ≡ 0 =
      nothing (ahead.more * b.blocking * x.made) x.outputs can.outputs no in
      wrote w f.output
      (subst (λ (l : List (List ℤ)). Appends w.contents w.contents (sample_bytes (in_turn l))) (sym none)
      (appends_none w.contents w.contents (keeps_same w.contents))) refl
      (ap (λ (k : ℕ). record f.output { missing = k })
      (let z : f.output.missing ≡ f.output.missing - ahead.more * b.blocking * x.made = omega (arith, zero_more) in z))
    where
      nothing : (k m : ℕ) → 0 < m → k * m ≡ 0 → k ≡ 0
      nothing zero m some is = refl
      nothing (suc k) m some is =
          let more : 1 * m ≤ suc k * m = mul-le-mul_right m (let z : 1 ≤ suc k = omega arith in z) in
          absurd (omega (arith, is, more, some))

-- the next blocks are made ahead of what is written
pub made_ahead : (b : Start) (g : Progress) (f : Flow) {r : ReaderState} {w : WriterState} (blocks frames : ℕ)
    (left : Option (NetState ℤ (List ℤ))) → Flows b g f.left f.source f.output r w →
    Makes b.net b.period b.blocking (sound_read (reading_in b) g.samples) g.blocks blocks frames g.bytes
    (items_of f.made.items) left → frames ≡ blocks * b.blocking * (io_rates_in b).made →
    samples_run b (g.blocks + blocks) ≤ length g.samples →
    IsAhead b (blocks_on g blocks (sample_bytes (in_turn (items_of f.made.items))) left) f r w
made_ahead b g f blocks frames left flows makes all there = record {
  before = g;
  flows = flows;
  more = blocks;
  is = refl;
  came = record {
    stands = subst (λ (k : ℕ). StandsAt b.net b.period b.blocking (sound_read (reading_in b) g.samples)
        (g.blocks + blocks) k (g.bytes ++ sample_bytes (in_turn (items_of f.made.items))) left)
        (ap (λ (k : ℕ). g.blocks * b.blocking * (io_rates_in b).made + k) all
        ∙ (let z : g.blocks * b.blocking * (io_rates_in b).made + blocks * b.blocking * (io_rates_in b).made ≡
        (g.blocks + blocks) * b.blocking * (io_rates_in b).made = omega arith in z))
        makes.stands;
    there = there;
  };
  whole = subst (λ (k : ℕ). AreWhole (io_rates_in b).outputs k (items_of f.made.items)) all makes.whole;
}
