-- What the two ends of a run say: the header that is written, and the content that is read.
use Rattle.std.proofs.Common.{◌≡◌, ◌≢◌, inl, inr, ℕ, ◌+◌, ◌-◌, ◌*◌, ◌++◌, min, ◌%◌, ◌≤◌, ◌<◌, ℤ, List, [], length}
use Rattle.std.proofs.Common.{Some, None, Result, Ok, Err, refl, sym, ap, ◌∙◌, subst, arith}
use Rattle.std.specs.Prelude.{IsErrAnd}
use Rattle.std.specs.declared.vec.Vec.{Vec}
use Rattle.sdf_wav.specs.Sound.{Sound, sound_of}
use Rattle.sdf_wav.specs.Canonical.{Writes}
use Rattle.sdf_wav.specs.Device.{ReaderState, WriterState, failures_after}
use Rattle.sdf_wav.specs.Fault.{HasFault}
use Rattle.sdf_wav.specs.PiecesIn.{ContentInValue, AnswersBy, IsEnded, IsPiece, IsReading, IsReadTo, IsSizedFault}
use Rattle.sdf_wav.specs.PiecesIn.{IsWithin}
use Rattle.sdf_wav.specs.PiecesIn.{next_at}
use Rattle.sdf_wav.specs.PiecesOut.{file_header, start_fault}
use Rattle.sdf_wav.specs.declared.fault.FormatFault.{FormatFault}
use Rattle.sdf_wav.specs.declared.fault.WavFault.{WavFault}
use Rattle.sdf_wav.specs.declared.fault.WavFault.TheVariants as wav
use Rattle.sdf_faults.specs.declared.fault.Fault.{Fault}
use Rattle.sdf_faults.specs.Faults.{of_wav}
use Rattle.sdf_process.specs.Stages.{PutsBytes, ReadsContent}
use Rattle.sdf_process.proofs.Sounds.{sound_is}

-- a header that may be written fails by its writer alone
pub begin_failed : {X : Type 0} (w w' : WriterState) (rate channels frames : ℕ) (e : WavFault)
    (r : Result X Fault) → start_fault rate channels frames ≡ None →
    Writes {X = Unit {0}} w.contents w'.contents (start_fault rate channels frames)
    (file_header rate channels frames) (Err e) →
    w'.failures ≡ failures_after {X = Unit {0}} (Err e) w.failures → IsErrAnd r (λ f. f ≡ of_wav e) →
    PutsBytes w w' (file_header rate channels frames) r
begin_failed w w' rate channels frames wav.Write (Err f) allowed written counted is =
    (is, written.1, counted)
begin_failed w w' rate channels frames (wav.Format g) (Err f) allowed written counted is =
    absurd (let no : None ≡ Some g = sym allowed ∙ written.0 in cc)
begin_failed w w' rate channels frames wav.OutOfMemory (Err f) allowed written counted is = absurd written
begin_failed w w' rate channels frames wav.Read (Err f) allowed written counted is = absurd written
begin_failed w w' rate channels frames e (Ok x) allowed written counted is = absurd is

-- the same, where the numbers are not yet known to be those
pub begin_failed_as : {X : Type 0} (w w' : WriterState) (rate r channels frames f : ℕ) (e : WavFault)
    (x : Result X Fault) → r ≡ rate → f ≡ frames → start_fault rate channels frames ≡ None →
    Writes {X = Unit {0}} w.contents w'.contents (start_fault r channels f) (file_header r channels f) (Err e) →
    w'.failures ≡ failures_after {X = Unit {0}} (Err e) w.failures → IsErrAnd x (λ g. g ≡ of_wav e) →
    PutsBytes w w' (file_header rate channels frames) x
begin_failed_as w w' rate r channels frames f e x same_rate same_frames allowed written counted is =
    let here = subst (λ (z : ℕ). Writes {X = Unit {0}} w.contents w'.contents (start_fault z channels f)
    (file_header z channels f) (Err e)) same_rate written in
    begin_failed w w' rate channels frames e x allowed
    (subst (λ (z : ℕ). Writes {X = Unit {0}} w.contents w'.contents (start_fault rate channels z)
    (file_header rate channels z)
    (Err e)) same_frames here) counted is

-- the content of an opened input failed
pub content_failed : (r r' : ReaderState) (c : ContentInValue) (frames : ℕ) →
    ((input : List ℕ) (d : ContentInValue) (before : List ℤ) (bytes : List ℕ) (many : ℕ) (f : FormatFault) →
    IsReadTo input d before bytes → next_at d many bytes ≡ Err f → HasFault input f) →
    (e : WavFault) (x : Result Sound Fault) → AnswersBy {X = Unit {0}} {Y = List ℤ} (λ x. []) r.remaining r'.remaining
    (next_at c frames)
    (Err e) → r'.failures ≡ failures_after {X = Unit {0}} (Err e) r.failures → (c.size ≢ 0xFFFFFFFF → IsSizedFault e) →
    IsErrAnd x (λ f. f ≡ of_wav e) → ReadsContent c r r' x
content_failed r r' c frames falls wav.OutOfMemory (Err f) said counted cut is = inl (is, said, counted)
content_failed r r' c frames falls wav.Read (Err f) said counted cut is = inr (inl (is, said, counted))
content_failed r r' c frames falls (wav.Format g) (Err f) said counted cut is =
    inr (inr (
      g,
      is,
      record {
        at = λ bytes known. let y = said.at bytes known in
            (y.0, y.1, ((λ input q. falls input c [] bytes frames g q y.2.0), y.2.1));
      },
      counted,
      cut,
    ))
content_failed r r' c frames falls wav.Write (Err f) said counted cut is = absurd said
content_failed r r' c frames falls e (Ok x) said counted cut is = absurd is

few_samples : (r : ContentInValue) (samples : ℕ) → IsReading r → IsWithin (2 * r.channels) r.size r.gone →
    2 * samples ≤ r.gone → samples < 18446744073709551615 * r.channels
few_samples r samples is (inl (known, sized, le)) less = omega (arith, is.size_fits, is.one_channel)
few_samples r samples is (inr (unknown, fits)) less = omega (arith, is.one_channel)

-- no content has more
pub few_read : (c : ContentInValue) (samples : ℕ) → c.gone ≡ 0 → (last : ContentInValue) →
    last ≡ record c { gone = c.gone + 2 * samples } → IsReading last → 2 * samples ≤ 0xFFFFFFFF
few_read c samples gone last goes is = go (subst IsReading goes is)
  where
    go : IsReading (record c { gone = c.gone + 2 * samples }) → 2 * samples ≤ 0xFFFFFFFF
    go r = elim r.within [
      | inl sized ↦ omega (arith, sized.2, r.size_fits)
      | inr open_ended ↦ omega (arith, open_ended.1)
    ]

all_sized : (frames channels size samples : ℕ) → frames ≡ 18446744073709551615 → 1 ≤ channels → size ≤ 0xFFFFFFFF →
    2 * samples ≡ min (2 * (frames * channels)) (size - 0) → 2 * samples ≡ size
all_sized frames channels size samples e one fits is =
    let big : 2 * (18446744073709551615 * channels) ≡ 2 * (frames * channels) =
    ap (λ (z : ℕ). 2 * (z * channels)) (sym e) in omega arith

-- it was read whole
module _ {Z : Type 0} (r r' : ReaderState) (c : ContentInValue) (frames : ℕ)
    (all : frames ≡ 18446744073709551615) (gone : c.gone ≡ 0)
    (on : (input : List ℕ) (d : ContentInValue) (before : List ℤ) (bytes : List ℕ) (many : ℕ) (samples : List ℤ)
    (rest : List ℕ) → IsReadTo input d before bytes
    → next_at d many bytes ≡ Ok (samples, rest) → IsReadTo input (record d { gone = d.gone + 2 * length samples })
    (before ++ samples) rest)
    (few : (input : List ℕ) (d : ContentInValue) (before : List ℤ) (bytes : List ℕ) (many : ℕ) (samples : List ℤ)
    (rest : List ℕ) → IsReadTo input d before bytes
    → next_at d many bytes ≡ Ok (samples, rest) → length samples < many * d.channels →
    IsEnded (record d { gone = d.gone + 2 * length samples }) rest)
    (v : Vec ℤ Z) (said : AnswersBy {X = Vec ℤ Z} (λ (x : Vec ℤ Z). x.items) r.remaining r'.remaining
    (next_at c frames) (Ok v))
    (counted : r'.failures ≡ r.failures) (piece : IsPiece c frames (length v.items)) (last : ContentInValue)
    (goes : last ≡ record c { gone = c.gone + 2 * length v.items }) (is : IsReading last) where
  here : IsReading (record c { gone = c.gone + 2 * length v.items })
  here = subst IsReading goes is

  less : length v.items < frames * c.channels
  less = subst (λ (z : ℕ). length v.items < z * c.channels) (sym all)
      (few_samples (record c { gone = c.gone + 2 * length v.items }) (length v.items) here here.within (omega arith))

  sized : c.size ≢ 0xFFFFFFFF → 2 * length v.items ≡ c.size
  sized known = all_sized frames c.channels c.size (length v.items) all here.one_channel here.size_fits
      (piece.sized known ∙ ap (λ (z : ℕ). min (2 * (frames * c.channels)) (c.size - z)) gone)

  pub content_read : (s : Sound) → s ≡ record { rate = c.rate; channels = c.channels; samples = v.items } →
      ReadsContent c r r' (Ok s)
  content_read s same =
      subst (λ (t : Sound). ReadsContent c r r' (Ok t)) (sym same) (
        record {
          at = λ bytes known. let y = said.at bytes known in (
            y.0,
            y.1,
            (
              (λ input q. record {
                read = on input c [] bytes frames v.items y.0 q y.2.0;
                ended = few input c [] bytes frames v.items y.0 q y.2.0 less;
              }),
              y.2.1,
            ),
          );
        },
        counted,
        refl,
        refl,
        sized,
      )

-- what was made of it is its sound
pub sound_made : (s : Sound) (result : Result Sound WavFault) (rate channels : ℕ) (samples : List ℤ) →
    result ≡ sound_of rate channels samples → result ≡ Ok s → 1 ≤ rate → 1 ≤ channels → channels ≤ 8 →
    length samples % channels ≡ 0 → s ≡ record { rate = rate; channels = channels; samples = samples }
sound_made s result rate channels samples made is some one eight whole =
    let same : Ok s ≡ Ok (record { rate = rate; channels = channels; samples = samples }) =
    sym is ∙ (made ∙ sound_is rate channels samples some one eight whole) in
    cc
