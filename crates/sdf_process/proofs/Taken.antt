-- What is taken of a source.
use Rattle.std.proofs.Common.{◌≡◌, ◌≢◌, ◌⊎◌, inl, inr, ℕ, ◌+◌, ◌*◌, ◌/◌, ◌%◌, ◌≤◌, ◌<◌, ℤ, List, [], ◌++◌, length, take}
use Rattle.std.proofs.Common.{drop, Option, Some, MatchResult, Result, Ok, Err, refl, sym, ap, ◌∙◌, subst, arith}
use Rattle.std.specs.declared.vec.Vec.{Vec}
use Rattle.std.proofs.Math.Nat.{div-mul-le_self, mul-div_left, mul-le-mul_right, mul-mod_left, zero-mod}
use Rattle.std.proofs.Math.Seq.{take-add, take-length}
use Rattle.std.proofs.lemmas.Bool.{ne_eqb}
use Rattle.std.proofs.lemmas.Nat.{le-div}
use Rattle.std.proofs.lemmas.List.{drop-drop, length-append, length-drop, length-take-le, take-append-drop}
use Rattle.sdf_actor.specs.Nets.{Netlist}
use Rattle.sdf_queues.specs.RunResults.{AreOutputs, periods_of as firings}
use Rattle.sdf_kit.specs.declared.kit.Kit.{Kit}
use Rattle.sdf_kit.specs.Kit.{kit_steps}
use Rattle.sdf_wav.specs.Device.{ReaderState, WriterState}
use Rattle.sdf_wav.specs.PiecesIn.{ContentInValue, IsReadTo, known_frames, sound_read}
use Rattle.sdf_wav.specs.Sound.{Sound, frames_of}
use Rattle.sdf_wav.specs.declared.wav.TheConstants.{MAX_CHANNELS}
use Rattle.sdf_faults.specs.declared.fault.Fault.{Fault}
use Rattle.sdf_faults.specs.declared.fault.Fault.TheVariants.{OutOfMemory}
use Rattle.sdf_process.specs.declared.source.Source.{Source}
use Rattle.sdf_process.specs.declared.source.Source.TheVariants.{Content, Decoded}
use Rattle.sdf_process.specs.Output.{io_rates_of, lists_to, periods_of}
use Rattle.sdf_process.specs.Run.{AreFrames}
use Rattle.sdf_process.specs.Sources.{reading_of, source_behind, ReadsBy, ReadsMore, Takes, TakesAll, TakesMore}
use Rattle.sdf_process.specs.Stages.{PutsOutput}
use Rattle.sdf_process.specs.Streams.{Streams}
use Rattle.sdf_process.specs.PlannedNets.{IsUnreadContent}
use Rattle.sdf_process.proofs.Parts.{lists_stay}
use Rattle.sdf_process.proofs.Sizes.{periods_fit}

-- ---- how far a source is taken

pub reading_behind : (first : Source) (samples : List ℤ) → reading_of (source_behind first samples) ≡
    record (reading_of first) { gone = (reading_of first).gone + 2 * length samples }
reading_behind (Content c) samples = refl
reading_behind (Decoded s taken) samples =
    ap (λ (k : ℕ). record (reading_of (Decoded s taken)) { gone = k })
    (let z : 2 * (taken + length samples) ≡ 2 * taken + 2 * length samples = omega arith in z)

-- nothing is taken
pub takes_none : (first : Source) (old : Option (List ℕ)) → Takes first [] old old
takes_none (Content c) old =
    let start : record c { gone = c.gone + 2 * 0 } ≡ c =
    ap (λ (k : ℕ). record c { gone = k }) (let z : c.gone + 2 * 0 ≡ c.gone = omega arith in z) in
    record {
      at = λ bytes known. (
        bytes,
        known,
        ((λ input is. subst (λ (y : ContentInValue). IsReadTo input y [] bytes) (sym start) is), (0, refl)),
      );
    }
takes_none (Decoded s taken) old = (refl, refl)

pub behind_none : (first : Source) → first ≡ source_behind first []
behind_none (Content c) = ap (λ (k : ℕ). Content (record c { gone = k }))
    (let z : c.gone ≡ c.gone + 2 * 0 = omega arith in z)
behind_none (Decoded s taken) = ap (λ (k : ℕ). Decoded s k) (let z : taken ≡ taken + 0 = omega arith in z)

-- a reader of the same bytes and failures is the same
reader_same : (r r' : ReaderState) → r'.remaining ≡ r.remaining → r'.failures ≡ r.failures → r' ≡ r
reader_same r r' bytes count = ap (λ (l : Option (List ℕ)). record r' { remaining = l }) bytes
    ∙ ap (λ (k : ℕ). record r { failures = k }) count

-- memory was refused behind some samples
pub takes_refused : (first : Source) (samples : List ℤ) (r r' : ReaderState) (f : Fault) → f ≡ OutOfMemory →
    Takes first samples r.remaining r'.remaining → r'.failures ≡ r.failures → TakesAll first r r' (Err f)
takes_refused (Content c) samples r r' f is takes same = inl (
  is,
  record { at = λ bytes known. let y = takes.at bytes known in (y.0, y.1, y.2.1) },
  same,
)
takes_refused (Decoded s taken) samples r r' f is takes same = (is, reader_same r r' takes.0 same)

all_of : (xs ys : List ℤ) → xs ≡ take (length xs) ys → length xs ≡ length ys → xs ≡ ys
all_of xs ys front same = front ∙ (ap (λ (k : ℕ). take k ys) same ∙ take-length ys)

-- all samples are taken
pub takes_whole : (first : Source) (samples : List ℤ) (r r' : ReaderState) → (reading_of first).gone ≡ 0 →
    (reading_of first).size ≢ 0xFFFFFFFF → 2 * length samples ≡ (reading_of first).size →
    Takes first samples r.remaining r'.remaining → r'.failures ≡ r.failures →
    TakesAll first r r' (Ok (sound_read (reading_of first) samples))
takes_whole (Content c) samples r r' gone known size takes same = (
  record {
    at = λ bytes is. let y = takes.at bytes is in (
      y.0,
      y.1,
      (
        (λ input q. record {
          read = y.2.0 input q;
          ended = inl (
            known,
            (let z : c.gone + 2 * length samples ≡ c.size = omega (arith, gone, size) in z),
          );
        }),
        y.2.1,
      ),
    );
  },
  same,
  refl,
  refl,
  λ z. size,
)
takes_whole (Decoded s taken) samples r r' gone known size takes same =
    let none : taken ≡ 0 = omega (arith, gone) in
    let front : samples ≡ take (length samples) s.samples =
    subst (λ (k : ℕ). samples ≡ take (length samples) (drop k s.samples)) none takes.1 in
    let all : samples ≡ s.samples = all_of samples s.samples front (omega (arith, size)) in
    (ap (λ (l : List ℤ). record s { samples = l }) all, reader_same r r' takes.0 same)

-- ---- some more is taken

-- what is asked of a sound that was read before is there
pub heard_enough : (first : Source) (s : Sound) (taken frames k : ℕ) → first ≡ Decoded s taken → k ≡ s.channels →
    (reading_of first).gone + 2 * (frames * (reading_of first).channels) ≤ (reading_of first).size →
    taken + frames * k ≤ length s.samples
heard_enough first s taken frames k is same enough =
    let here : 2 * taken + 2 * (frames * s.channels) ≤ 2 * length s.samples =
    subst (λ (y : Source). (reading_of y).gone + 2 * (frames * (reading_of y).channels) ≤ (reading_of y).size) is
    enough in
    omega (arith, here, ap (λ (c : ℕ). frames * c) same)

pub heard_short : (first : Source) (s : Sound) (taken : ℕ) → first ≡ Decoded s taken →
    (reading_of first).size ≤ 0xFFFFFFFF → 2 * length s.samples ≤ 0xFFFFFFFF
heard_short first s taken is short = subst (λ (y : Source). (reading_of y).size ≤ 0xFFFFFFFF) is short

module _ (r : ReaderState) where
  -- from a content
  pub content_more : {Z : Type 0} (first : Source) (before : List ℤ) (frames : ℕ) (kept : List ℤ)
      (r1 r2 : ReaderState) (content now : ContentInValue) (result : Result (Vec ℤ Z) Fault) →
      ((c : ContentInValue) (xs : List ℤ) (o : ReaderState) → content ≡ record c { gone = c.gone + 2 * length xs } →
      ReadsBy c xs o.remaining r1.remaining → r1.failures ≡ o.failures →
      MatchResult result (λ all. ReadsMore c xs frames kept o r2 now (Ok all.items))
      (λ f. ReadsMore c xs frames kept o r2 now (Err f))) →
      Content content ≡ source_behind first before → Takes first before r.remaining r1.remaining →
      r1.failures ≡ r.failures →
      MatchResult result (λ all. TakesMore first before frames kept r r2 (Content now) (Ok all.items))
      (λ f. TakesMore first before frames kept r r2 (Content now) (Err f))
  content_more {Z} (Content c) before frames kept r1 r2 content now result reads is takes same =
      let here : content ≡ record c { gone = c.gone + 2 * length before } =
      let both : Content content ≡ Content (record c { gone = c.gone + 2 * length before }) = is in cc in
      go result (reads c before r here takes same)
    where
      go : (result : Result (Vec ℤ Z) Fault) →
          MatchResult result (λ all. ReadsMore c before frames kept r r2 now (Ok all.items))
          (λ f. ReadsMore c before frames kept r r2 now (Err f)) →
          MatchResult result (λ all. TakesMore (Content c) before frames kept r r2 (Content now) (Ok all.items))
          (λ f. TakesMore (Content c) before frames kept r r2 (Content now) (Err f))
      go (Ok all) (samples, joined, count, on, goes, fine) =
          (samples, joined, count, on, ap (λ (y : ContentInValue). Content y) goes, fine)
      go (Err f) failed = failed
  content_more (Decoded s taken) before frames kept r1 r2 content now result reads is takes same =
      absurd (let no : Content content ≡ Decoded s (taken + length before) = is in cc)

  -- from a sound that was read before
  pub heard_more : (first : Source) (before : List ℤ) (frames : ℕ) (kept : List ℤ) (r1 : ReaderState) (s : Sound)
      (taken end : ℕ) (xs all : List ℤ) → Decoded s taken ≡ source_behind first before →
      Takes first before r.remaining r1.remaining → r1.failures ≡ r.failures → end ≡ taken + frames * s.channels →
      end ≤ length s.samples →
      xs ≡ take (frames * s.channels) (drop taken s.samples) → all ≡ kept ++ xs →
      TakesMore first before frames kept r r1 (Decoded s end) (Ok all)
  heard_more (Content c) before frames kept r1 s taken end xs all is takes same there within slice joined =
      absurd (let no : Decoded s taken ≡ Content (record c { gone = c.gone + 2 * length before }) = is in cc)
  heard_more (Decoded t at) before frames kept r1 s taken end xs all is takes same there within slice joined =
      (xs, joined, count ∙ ap (λ (y : Sound). frames * y.channels) sound, (takes.0, front), now, same)
    where
      sound : s ≡ t
      sound = let both : Decoded s taken ≡ Decoded t (at + length before) = is in cc

      place : taken ≡ at + length before
      place = let both : Decoded s taken ≡ Decoded t (at + length before) = is in cc

      count : length xs ≡ frames * s.channels
      count = ap length slice ∙ length-take-le (frames * s.channels) (drop taken s.samples)
          (omega (arith, length-drop taken s.samples, there, within))

      both_long : length (before ++ xs) ≡ length before + frames * s.channels
      both_long = omega (arith, length-append before xs, count)

      behind : drop taken s.samples ≡ drop (length before) (drop at t.samples)
      behind = ap (λ (k : ℕ). drop k s.samples) place
          ∙ (ap (λ (y : Sound). drop (at + length before) y.samples) sound
          ∙ sym (drop-drop (length before) at t.samples))

      front : before ++ xs ≡ take (length (before ++ xs)) (drop at t.samples)
      front = ap (λ (l : List ℤ). before ++ l) (slice ∙ ap (take (frames * s.channels)) behind)
          ∙ (ap (λ (l : List ℤ). l ++ take (frames * s.channels) (drop (length before) (drop at t.samples))) takes.1
          ∙ (sym (take-add (length before) (frames * s.channels) (drop at t.samples))
          ∙ ap (λ (k : ℕ). take k (drop at t.samples)) (sym both_long)))

      now : Decoded s end ≡ Decoded t (at + length (before ++ xs))
      now = ap (λ (y : Sound). Decoded y end) sound
          ∙ ap (λ (k : ℕ). Decoded t k) (let z : end ≡ at + length (before ++ xs) =
          omega (arith, there, place, both_long) in z)

-- ---- a whole sound

-- of a sound that was read before nothing is taken
pub unheard_sound : (s : Sound) (frames : ℕ) → 1 ≤ s.rate → 1 ≤ s.channels → s.channels ≤ MAX_CHANNELS →
    frames * s.channels ≡ length s.samples → 2 * length s.samples ≤ 0xFFFFFFFF →
    IsUnreadContent (reading_of (Decoded s 0)) frames
unheard_sound s frames some one few whole short = record {
  sound = record {
    some_rate = some;
    one_channel = one;
    few_channels = few;
    size_fits = short;
    whole = zero-mod (2 * s.channels);
    within = inl (
      odd,
      ap (λ (k : ℕ). k % (2 * s.channels)) size ∙ mul-mod_left frames (2 * s.channels),
      omega arith,
    );
    fault = tt;
  };
  unread = refl;
  unspoilt = refl;
  known = known;
}
  where
    odd : 2 * length s.samples ≢ 0xFFFFFFFF
    odd is = omega (arith, is)

    size : 2 * length s.samples ≡ frames * (2 * s.channels)
    size = let z : 2 * (frames * s.channels) ≡ frames * (2 * s.channels) = omega arith in
        ap (λ (k : ℕ). 2 * k) (sym whole) ∙ z

    known : known_frames (reading_of (Decoded s 0)) ≡ Some frames
    known =
        let some : known_frames (reading_of (Decoded s 0)) ≡ Some (2 * length s.samples / (2 * s.channels)) =
        rw (ne_eqb (2 * length s.samples) 4294967295 odd) refl in
        some ∙ ap (λ (k : ℕ). Some k) (ap (λ (k : ℕ). k / (2 * s.channels)) size
        ∙ mul-div_left frames (let z : 0 < 2 * s.channels = omega (arith, one) in z))

-- what was taken whole is what the source holds
pub taken_whole : (first : Source) (r r' : ReaderState) (s : Sound) → (reading_of first).gone ≡ 0 →
    (reading_of first).size ≢ 0xFFFFFFFF → TakesAll first r r' (Ok s) →
    (2 * length s.samples ≡ (reading_of first).size) × Takes first s.samples r.remaining r'.remaining
    × (sound_read (reading_of first) s.samples ≡ s) × (r'.failures ≡ r.failures)
taken_whole (Content c) r r' s gone known takes = (
  takes.4 known,
  record {
    at = λ bytes is. let y = takes.0.at bytes is in
        (y.0, y.1, ((λ input q. (y.2.0 input q).read), y.2.1));
  },
  rw (← takes.2, ← takes.3) refl,
  takes.1,
)
taken_whole (Decoded t taken) r r' s gone known takes = (
  ap (λ (y : Sound). 2 * length y.samples) takes.0,
  (
    ap (λ (x : ReaderState). x.remaining) takes.1,
    sym (take-length s.samples)
        ∙ (ap (λ (y : Sound). take (length s.samples) y.samples) takes.0
        ∙ ap (λ (k : ℕ). take (length s.samples) (drop k t.samples)) (let z : 0 ≡ taken = omega (arith, gone) in z)),
  ),
  ap (λ (y : Sound). record { rate = t.rate; channels = t.channels; samples = y.samples }) takes.0 ∙ sym takes.0,
  ap (λ (x : ReaderState). x.failures) takes.1,
)

-- its frames were written, or some of them
pub whole_streams : (n : Netlist Kit ℤ) (q : List ℕ) (first : Source) (r r' : ReaderState) (s : Sound) →
    (reading_of first).gone ≡ 0 → (reading_of first).size ≢ 0xFFFFFFFF → TakesAll first r r' (Ok s) →
    (w w' : WriterState) (result : Result (Unit {0}) Fault) → PutsOutput n q s w w' result →
    Streams n q first r r' w w' result
whole_streams n q first r r' s gone known takes w w' (Ok x) puts = (s, takes, puts)
whole_streams n q first r r' s gone known takes w w' (Err f) (periods, frames, few, are, why) = (
  s.samples,
  periods,
  frames,
  r'.remaining,
  record {
    within = omega (arith, all.0);
    are_read = inr (all.0, subst (λ (t : Sound). periods ≤ periods_of (io_rates_of n q) t) (sym all.2) few);
    are_frames = subst (λ (t : Sound). AreFrames n q t periods frames) (sym all.2) are;
  },
  all.1,
  elim why [
    | inl failed ↦ inl (failed.0, refl, failed.1, all.3, failed.2)
    | inr refused ↦ inr (
      takes_refused first s.samples r r' f refused.0 all.1 all.3,
      refused.1,
      refused.2,
    )
  ],
)
  where
    all : (2 * length s.samples ≡ (reading_of first).size) × Takes first s.samples r.remaining r'.remaining
        × (sound_read (reading_of first) s.samples ≡ s) × (r'.failures ≡ r.failures)
    all = taken_whole first r r' s gone known takes

-- ---- what a sound that was read before makes

module _ (n : Netlist Kit ℤ) (q : List ℕ) (s : Sound) (one : 1 ≤ s.channels)
    (lower : (io_rates_of n q).inputs ≤ s.channels) (some : 0 < (io_rates_of n q).taken) where
  abbrev front : List ℤ → Sound
  front samples = sound_read (reading_of (Decoded s 0)) samples

  module _ (samples : List ℤ) (first : samples ≡ take (length samples) s.samples) where
    all_there : samples ++ drop (length samples) s.samples ≡ s.samples
    all_there = ap (λ (l : List ℤ). l ++ drop (length samples) s.samples) first
        ∙ take-append-drop (length samples) s.samples

    fewer : length samples ≤ length s.samples
    fewer = omega (arith, ap length all_there, length-append samples (drop (length samples) s.samples))

    -- the frames of some periods of its front are its own
    frames_of_front : (periods : ℕ) (bytes : List ℕ) →
        (periods * (io_rates_of n q).taken ≤ frames_of (front samples))
        ⊎ ((2 * length samples ≡ 2 * length s.samples) × (periods ≤ periods_of (io_rates_of n q) (front samples))) →
        AreFrames n q (front samples) periods bytes →
        (periods ≤ periods_of (io_rates_of n q) s) × AreFrames n q s periods bytes
    frames_of_front periods bytes (inl less) are = (
      periods_fit periods (io_rates_of n q).taken (frames_of s) some
          (omega (
            arith,
            less,
            le-div (length samples / s.channels) (length s.samples) s.channels one
                (omega (arith, div-mul-le_self (length samples) s.channels, fewer)),
          )),
      elim are [
        | inl nothing ↦ inl nothing
        | inr made ↦ inr (
          made.0,
          subst (λ (l : List (List ℤ)). AreOutputs kit_steps n l (firings q periods) made.0) (sym same) made.1,
          made.2,
        )
      ],
    )
      where
        there : periods * (io_rates_of n q).taken * s.channels ≤ length samples
        there = omega (
          arith,
          mul-le-mul_right s.channels less,
          div-mul-le_self (length samples) s.channels,
        )

        same : lists_to periods (io_rates_of n q) s ≡ lists_to periods (io_rates_of n q) (front samples)
        same = ap (λ (l : List ℤ). lists_to periods (io_rates_of n q) (front l)) (sym all_there)
            ∙ lists_stay periods (io_rates_of n q) (reading_of (Decoded s 0)) samples (drop (length samples) s.samples)
            lower there
    frames_of_front periods bytes (inr (size, few)) are =
        let all : samples ≡ s.samples = all_of samples s.samples first (omega (arith, size)) in (
          subst (λ (l : List ℤ). periods ≤ periods_of (io_rates_of n q) (front l)) all few,
          subst (λ (l : List ℤ). AreFrames n q (front l) periods bytes) all are,
        )

  pub heard_puts : (r r' : ReaderState) (w w' : WriterState) (result : Result (Unit {0}) Fault) →
      Streams n q (Decoded s 0) r r' w w' result → PutsOutput n q s w w' result × (r' ≡ r)
  heard_puts r r' w w' (Ok x) (t, (same, there), puts) =
      (subst (λ (u : Sound). PutsOutput n q u w w' (Ok x)) same puts, there)
  heard_puts r r' w w' (Err f) (samples, periods, bytes, mid, st, (there, first), inl why) =
      let are = frames_of_front samples first periods bytes st.are_read st.are_frames in
      ((periods, bytes, are.0, are.1, inl (why.0, why.2, why.4)), reader_same r r' (sym why.1 ∙ there) why.3)
  heard_puts r r' w w' (Err f) (samples, periods, bytes, mid, st, (there, first), inr why) =
      let are = frames_of_front samples first periods bytes st.are_read st.are_frames in
      ((periods, bytes, are.0, are.1, inr (why.0.0, why.1, why.2)), why.0.1)
