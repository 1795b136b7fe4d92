-- The end of a run that takes and writes as it goes: its last blocks, filled up with zeros.
use Rattle.std.proofs.Common.{◌≡◌, inl, inr, Result, Ok, Err, ℕ, ◌+◌, ◌-◌, ◌*◌, ◌/◌, ◌≤◌, ◌<◌, ℤ, List, ◌++◌, length}
use Rattle.std.proofs.Common.{Option, refl, sym, ap, ◌∙◌, subst, arith}
use Rattle.std.specs.Io.KnownBytes.{Appends}
use Rattle.std.proofs.Math.Nat.{mul-div_left, mul-le-mul_left, mul-le-mul_right}
use Rattle.sdf_actor.specs.declared.net_state.NetState.{NetState}
use Rattle.sdf_wav.specs.Canonical.{sample_bytes}
use Rattle.sdf_wav.specs.Device.{ReaderState, WriterState, one_more}
use Rattle.sdf_wav.specs.PiecesIn.{ContentInValue, sound_read}
use Rattle.sdf_wav.specs.PiecesOut.{ContentOutValue}
use Rattle.sdf_wav.specs.Sound.{Sound}
use Rattle.sdf_faults.specs.declared.fault.Fault.{Fault}
use Rattle.sdf_process.specs.declared.io_rates.IoRates.{IoRates}
use Rattle.sdf_process.specs.declared.source.Source.{Source}
use Rattle.sdf_process.specs.Flows.{CanFlow, Flows, Progress, Start, StreamsFrom, io_rates_in, reading_in}
use Rattle.sdf_process.specs.Output.{in_turn, periods_for, periods_of}
use Rattle.sdf_process.specs.Sources.{TakesAll}
use Rattle.sdf_process.specs.Stages.{PutsBytes}
use Rattle.sdf_process.specs.Streams.{Makes, StandsAt}
use Rattle.sdf_process.proofs.Came.{stood}
use Rattle.sdf_process.proofs.Flowing.{within_size}
use Rattle.sdf_process.proofs.Outcomes.{appends_join, front_join}
use Rattle.sdf_process.proofs.Sizes.{below_by, cancel, periods_fit}
use Rattle.sdf_process.proofs.Taken.{takes_whole}

module _ (b : Start) (can : CanFlow b) (g : Progress) {unread : ℕ} {source : Source} {o : ContentOutValue}
    {r : ReaderState} {w : WriterState} (here : Flows b g unread source o r w)
    (end : unread ≡ 0) where
  abbrev c : ContentInValue
  c = reading_in b

  abbrev x : IoRates
  x = io_rates_in b

  abbrev j : ℕ
  j = b.blocking

  abbrev sound : Sound
  sound = sound_read c g.samples

  all_there : length g.samples ≡ b.frames * c.channels
  all_there = here.count ∙ ap (λ (k : ℕ). k * c.channels)
      (let z : b.frames - unread ≡ b.frames = omega (arith, end) in z)

  size_there : 2 * length g.samples ≡ c.size
  size_there = omega (arith, all_there, can.size)

  decoded : TakesAll b.source b.reader r (Ok sound)
  decoded = takes_whole b.source g.samples b.reader r can.unread can.known size_there here.takes here.reader

  periods_are : periods_of x sound ≡ periods_for x b.frames
  periods_are = ap (periods_for x)
      (ap (λ (k : ℕ). k / c.channels) all_there ∙ mul-div_left b.frames can.one)

  few_periods : g.blocks * j * x.made ≤ periods_for x b.frames * x.made
  few_periods =
      let few : g.blocks * j * x.taken ≤ b.frames = cancel (g.blocks * j * x.taken) b.frames c.channels can.one
      (omega (arith, here.came.there, all_there)) in
      mul-le-mul_right x.made (periods_fit (g.blocks * j) x.taken b.frames can.taken few)

  -- what is missing fills the output up
  pub filled : g.blocks * j * x.made + o.missing ≡ periods_for x b.frames * x.made
  filled = omega (arith, few_periods, ap (λ (y : ContentOutValue). y.missing) here.owed, can.owed)

  -- and is short
  pub missing_short : o.missing ≤ 2147483629
  missing_short =
      let less : o.missing * 1 ≤ b.owed * x.outputs =
      fewer (omega (arith, ap (λ (y : ContentOutValue). y.missing) here.owed)) in
      omega (arith, less, can.short)
    where
      fewer : o.missing ≤ b.owed → o.missing * 1 ≤ b.owed * x.outputs
      fewer l =
          let more : o.missing * 1 ≤ b.owed * 1 = mul-le-mul_right 1 l in
          let all : b.owed * 1 ≤ b.owed * x.outputs = mul-le-mul_left b.owed can.outputs in
          omega (arith, more, all)

  ended_by : (blocks many : ℕ) (bytes : List ℕ) (v : Option (NetState ℤ (List ℤ))) (w' : WriterState) →
      StandsAt b.net b.period j sound blocks many bytes v → periods_for x b.frames ≤ blocks * j →
      many ≡ periods_for x b.frames * x.made → Appends b.writer.contents w'.contents bytes →
      w'.failures ≡ b.writer.failures → StreamsFrom b r w' (Ok tt)
  ended_by blocks many bytes v w' at less same written fine =
      let s = stood can.runs b.net b.period can.has j sound blocks many (periods_of x sound) bytes v at
      (subst (λ (k : ℕ). k ≤ blocks * j) (sym periods_are) less)
      (same ∙ ap (λ (k : ℕ). k * x.made) (sym periods_are)) in
      (sound, decoded, (s.0, s.1, subst (Appends b.writer.contents w'.contents) s.2 written, fine))

  -- nothing is missing
  pub ended_whole : o.missing ≡ 0 → StreamsFrom b r w (Ok tt)
  ended_whole none =
      let made : g.blocks * j * x.made ≡ periods_for x b.frames * x.made = omega (arith, filled, none) in
      let less : periods_for x b.frames ≤ g.blocks * j =
      cancel (periods_for x b.frames) (g.blocks * j) x.made can.made (omega (arith, made)) in
      ended_by g.blocks (g.blocks * j * x.made) g.bytes g.left w here.came.stands less made here.written
      here.writer

  -- the last blocks
  module _ (blocks : ℕ) (covers : o.missing ≤ blocks * (j * x.made))
      (less : blocks * (j * x.made) < o.missing + j * x.made) where
    pub last_short : blocks * j ≤ 4294967295
    last_short =
        let split : blocks * (j * x.made) ≡ blocks * j * x.made = omega arith in
        let past : blocks * j * x.made < (o.missing + j) * x.made =
        let more : o.missing * 1 ≤ o.missing * x.made = mul-le-mul_left o.missing can.made in
        let sum : (o.missing + j) * x.made ≡ o.missing * x.made + j * x.made = omega arith in
        omega (arith, split, less, more, sum) in
        omega (arith, below_by (blocks * j) (o.missing + j) x.made past, missing_short, can.few)

    -- single periods make just what is missing
    pub single : j ≡ 1 → o.missing ≡ blocks * j * x.made
    single one =
        let q : ℕ = periods_for x b.frames - g.blocks * j in
        let rest : q * x.made ≡ o.missing =
        let sum : (g.blocks * j + q) * x.made ≡ g.blocks * j * x.made + q * x.made = omega arith in
        let all : g.blocks * j + q ≡ periods_for x b.frames =
        omega (arith, cancel (g.blocks * j) (periods_for x b.frames) x.made can.made few_periods) in
        omega (arith, filled, sum, ap (λ (k : ℕ). k * x.made) all) in
        let size : j * x.made ≡ x.made = ap (λ (k : ℕ). k * x.made) one ∙ (let z : 1 * x.made ≡ x.made =
        omega arith in z) in
        let most : blocks * (j * x.made) ≡ blocks * x.made = ap (λ (k : ℕ). blocks * k) size in
        let no_more : blocks < q + 1 = below_by blocks (q + 1) x.made
        (let sum : (q + 1) * x.made ≡ q * x.made + x.made = omega arith in
        omega (arith, less, most, size, rest, sum)) in
        let no_less : q ≤ blocks = cancel q blocks x.made can.made (omega (arith, covers, most, rest)) in
        let same : q ≡ blocks = omega (arith, no_more, no_less) in
        let split : blocks * (j * x.made) ≡ blocks * j * x.made = omega arith in
        omega (arith, rest, ap (λ (k : ℕ). k * x.made) same, most, split)

    enough : periods_for x b.frames ≤ (g.blocks + blocks) * j
    enough =
        let split : (g.blocks + blocks) * j * x.made ≡ g.blocks * j * x.made + blocks * (j * x.made) = omega arith in
        cancel (periods_for x b.frames) ((g.blocks + blocks) * j) x.made can.made (omega (arith, filled, covers, split))

    -- their frames are written, or a front of them
    pub ended : (made : List (List ℤ)) (v : Option (NetState ℤ (List ℤ))) →
        Makes b.net b.period j sound g.blocks blocks o.missing g.bytes made v → (w' : WriterState)
        (result : Result (Unit {0}) Fault) → PutsBytes w w' (sample_bytes (in_turn made)) result →
        StreamsFrom b r w' result
    ended made v makes w' (Ok y) (written, fine) =
        ended_by (g.blocks + blocks) (g.blocks * j * x.made + o.missing) (g.bytes ++ sample_bytes (in_turn made)) v
        w' makes.stands enough filled
        (appends_join b.writer.contents w.contents w'.contents g.bytes (sample_bytes (in_turn made))
        here.written written)
        (fine ∙ here.writer)
    ended made v makes w' (Err f) (is_write, front, failed) = (
      g.samples,
      periods_of x sound,
      g.bytes ++ sample_bytes (in_turn made),
      r.remaining,
      record {
        within = within_size b can g here;
        are_read = inr (size_there, omega arith);
        are_frames = inr (stood can.runs b.net b.period can.has j sound (g.blocks + blocks)
            (g.blocks * j * x.made + o.missing) (periods_of x sound) (g.bytes ++ sample_bytes (in_turn made)) v
            makes.stands (subst (λ (k : ℕ). k ≤ (g.blocks + blocks) * j) (sym periods_are) enough)
            (filled ∙ ap (λ (k : ℕ). k * x.made) (sym periods_are)));
      },
      here.takes,
      inl (
        is_write,
        refl,
        front_join b.writer.contents w.contents w'.contents g.bytes (sample_bytes (in_turn made)) here.written front,
        here.reader,
        failed ∙ ap one_more here.writer,
      ),
    )
