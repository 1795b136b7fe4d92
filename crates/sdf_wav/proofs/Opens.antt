-- A file as far as the size of its data: what the grammar says of it is what is read.
use Rattle.std.proofs.Common.{◌≡◌, ◌≢◌, ◌⊎◌, inl, inr, ℕ, ◌-◌, ◌*◌, ◌/◌, ◌%◌, List, [], ◌++◌, length, take, Option}
use Rattle.std.proofs.Common.{Some, None, Result, Ok, Err, refl, sym, ap, subst, ◌∙◌, arith}
use Rattle.std.specs.Prelude.{codes}
use Rattle.std.proofs.Math.Nat.{zero-mod}
use Rattle.std.proofs.lemmas.Bool.{eq-eqb, ne_eqb}
use Rattle.std.proofs.lemmas.Bool.Decides.{eqb_tells}
use Rattle.byteorder.specs.Endian.{little_number}
use Rattle.sdf_wav.specs.declared.fault.FormatFault.{FormatFault}
use Rattle.sdf_wav.specs.declared.fault.FormatFault.TheVariants.{PartialFrame}
use Rattle.sdf_wav.specs.declared.fault.ReadFault.{ReadFault}
use Rattle.sdf_wav.specs.declared.fault.ReadFault.TheVariants as read_faults
use Rattle.sdf_wav.specs.declared.fault.WavFault.{WavFault}
use Rattle.sdf_wav.specs.declared.fault.WavFault.TheVariants as faults
use Rattle.sdf_wav.specs.declared.format.Format.{Format}
use Rattle.sdf_wav.specs.declared.parts.DataStart.{DataStart}
use Rattle.sdf_wav.specs.Sound.{Sound}
use Rattle.sdf_wav.specs.Device.{wav_fault}
use Rattle.sdf_wav.specs.Content.{content_at}
use Rattle.sdf_wav.specs.Grammar.{Chunk, Content, Place, IsWav}
use Rattle.sdf_wav.specs.Parts.{riff_of}
use Rattle.sdf_wav.specs.Fault.{HasFault}
use Rattle.sdf_wav.specs.Steps.{◌>>=◌, Reads, riff_at, data_at, whole_at, open_at, wav_at}
use Rattle.sdf_wav.specs.PiecesIn.{ContentInValue, at_start, Opens, OpensAs, IsReadTo, FailsToOpen, AnswersOpening}
use Rattle.sdf_wav.specs.PiecesIn.{OpensTo}
use Rattle.sdf_wav.specs.PiecesIn.{RefusesToOpen}
use Rattle.sdf_wav.proofs.Frames.{whole_is_even}
use Rattle.sdf_wav.proofs.Known.{Known-weaker}
use Rattle.sdf_wav.proofs.Samples.{pcm_count}
use Rattle.sdf_wav.proofs.Walk.{riff_reads, walk, data_at_here}
use Rattle.sdf_wav.proofs.FaultsRead.{ContentFails, is_not_whole, is_cut, is_long, is_partial, place_fails}
use Rattle.sdf_wav.proofs.FaultsRead.{sized_partial, riff_or_place, to_place}
use Rattle.sdf_wav.proofs.Exact.{some_outcome, one_fault, fault_of}
use Rattle.sdf_wav.proofs.Total.{outcome}

abbrev opened : DataStart → List ℕ → Result (DataStart × List ℕ) FormatFault
opened d rest = Ok (d, rest)

abbrev fault : FormatFault → Result (DataStart × List ℕ) FormatFault
fault f = Err f

-- ---- what opens is read

whole_passes : (f : Format) (size : ℕ) (rest : List ℕ) → (size ≢ 0xFFFFFFFF → size % (2 * f.channels) ≡ 0) →
    whole_at (record { format = f; size = size }) rest ≡ Ok (record { format = f; size = size }, rest)
whole_passes f size rest h =
    elim (eqb_tells size 4294967295) [
      | inl unknown ↦ rw (eq-eqb size 4294967295 unknown.1) refl
      | inr known ↦ rw (ne_eqb size 4294967295 known.1, eq-eqb (size % (2 * f.channels)) 0 (h known.1)) refl
    ]

pub opens_reads : (bytes : List ℕ) (f : Format) (size : ℕ) (rest : List ℕ) → Opens bytes f size rest →
    open_at bytes ≡ Ok (record { format = f; size = size }, rest)
unfolding open_at
opens_reads bytes f size rest o =
    let n = 65536 - length o.chunks in
    let start : riff_at bytes ≡ Ok (tt, o.place.body) =
    ap riff_at o.place.start ∙ riff_reads o.place.riff_size o.place.body o.place.size_is_four in
    let found : data_at 65536 None o.place.body ≡ Ok
    (record { format = f; size = little_number 4 o.size_bytes }, rest) =
    walk n 65536 o.chunks (Some f) o.place.body (codes "data" ++ (o.size_bytes ++ rest)) (omega (arith, o.place.few))
    o.place.known o.place.parts ∙ data_at_here n f o.size_bytes rest o.size_is_four in
    rw (start, found, o.size_is) (whole_passes f size rest o.whole)

-- ---- a fault before the content is a fault of the file

bind_fails : {A B C : Type 0} (x : Result A FormatFault) (f : A → Result B FormatFault) (g : A → Result C FormatFault) →
    ((a : A) (r : FormatFault) → f a ≡ Err r → g a ≡ Err r)
    → (r : FormatFault) → (x >>= f) ≡ Err r → (x >>= g) ≡ Err r
bind_fails (Ok a) f g h r e = h a r e
bind_fails (Err q) f g h r e = let same : q ≡ r = cc in ap (λ x. Err x) same

whole_fails : (d : DataStart) (rest : List ℕ) (r : FormatFault) → whole_at d rest ≡ Err r →
    content_at (2 * d.format.channels) d.size rest ≡ Err r
whole_fails d rest r e =
    elim (eqb_tells d.size 4294967295) [
      | inl unknown ↦
          let h : whole_at d rest ≡ opened d rest = rw (eq-eqb d.size 4294967295 unknown.1) refl in
          let clash : opened d rest ≡ fault r = sym h ∙ e in
          absurd cc
      | inr known ↦ elim (eqb_tells (d.size % (2 * d.format.channels)) 0) [
        | inl whole ↦
            let h : whole_at d rest ≡ opened d rest = rw
            (ne_eqb d.size 4294967295 known.1, eq-eqb (d.size % (2 * d.format.channels)) 0 whole.1) refl in
            let clash : opened d rest ≡ fault r = sym h ∙ e in
            absurd cc
        | inr part ↦
            let h : whole_at d rest ≡ fault PartialFrame =
            rw (ne_eqb d.size 4294967295 known.1, ne_eqb (d.size % (2 * d.format.channels)) 0 part.1) refl in
            let clash : fault PartialFrame ≡ fault r = sym h ∙ e in
            let same : PartialFrame ≡ r = cc in
            sized_partial (2 * d.format.channels) d.size rest known.1 part.1 ∙ ap (λ x. Err x) same
      ]
    ]

abbrev sound_at : DataStart × List ℕ → Result (Sound × List ℕ) FormatFault
sound_at d = content_at (2 * d.0.format.channels) d.0.size d.1
    >>= λ s. Ok (record { rate = d.0.format.rate; channels = d.0.format.channels; samples = s.0 }, s.1)

content_stops : (d : DataStart × List ℕ) (r : FormatFault) → whole_at d.0 d.1 ≡ Err r → sound_at d ≡ Err r
content_stops d r e = rw (whole_fails d.0 d.1 r e) refl

open_fails : (bytes : List ℕ) (r : FormatFault) → open_at bytes ≡ Err r → wav_at bytes ≡ Err r
unfolding open_at wav_at
open_fails bytes r e =
    bind_fails (riff_at bytes) (λ x. data_at 65536 None x.1 >>= λ d. whole_at d.0 d.1)
    (λ x. data_at 65536 None x.1 >>= λ d. sound_at d)
    (λ x q h. bind_fails (data_at 65536 None x.1) (λ d. whole_at d.0 d.1) (λ d. sound_at d) content_stops q h) r e

-- ---- what a fault leaves to open

abbrev pub SomeOpens : List ℕ → Type 0
SomeOpens bytes = (f : Format) × (size : ℕ) × (rest : List ℕ) × Opens bytes f size rest

data_place : (bytes : List ℕ) (cs : List Chunk) (seen : Option Format) (rest : List ℕ) (f : Format)
    (size after : List ℕ) → Place bytes cs seen rest → seen ≡ Some f → rest ≡ codes "data" ++ (size ++ after)
    → Place bytes cs (Some f) (codes "data" ++ (size ++ after))
data_place bytes cs seen rest f size after p known whole =
    subst (λ (x : Option Format × List ℕ). Place bytes cs x.0 x.1) (rw (known, whole) refl) p

riff_stops : (bytes : List ℕ) (r : FormatFault) → riff_of (take 12 bytes) ≡ Err r → open_at bytes ≡ Err r
unfolding open_at
riff_stops bytes r h = rw h refl

data_stops : (bytes : List ℕ) (cs : List Chunk) (seen : Option Format) (rest : List ℕ) (r : FormatFault) →
    Place bytes cs seen rest → data_at (65536 - length cs) seen rest ≡ Err r → open_at bytes ≡ Err r
unfolding open_at
data_stops bytes cs seen rest r p h =
    let way = to_place bytes cs seen rest p in
    let none : data_at 65536 None p.body ≡ Err r = way.1 ∙ h in
    rw (way.0, none) refl

not_whole_stops : (bytes : List ℕ) (cs : List Chunk) (f : Format) (size after : List ℕ) →
    Place bytes cs (Some f) (codes "data" ++ (size ++ after)) → length size ≡ 4 → little_number 4 size ≢ 0xFFFFFFFF
    → little_number 4 size % (2 * f.channels) ≢ 0 → open_at bytes ≡ Err PartialFrame
unfolding open_at
not_whole_stops bytes cs f size after p four known part =
    let way = to_place bytes cs (Some f) (codes "data" ++ (size ++ after)) p in
    let found : data_at 65536 None p.body ≡ Ok (record { format = f; size = little_number 4 size }, after) =
    way.1 ∙ data_at_here (65536 - length cs) f size after four in
    rw (
      way.0,
      found,
      ne_eqb (little_number 4 size) 4294967295 known,
      ne_eqb (little_number 4 size % (2 * f.channels)) 0 part,
    ) refl

-- a size of whole frames behind the format opens
sized_opens : (bytes : List ℕ) (cs : List Chunk) (f : Format) (size after : List ℕ) →
    Place bytes cs (Some f) (codes "data" ++ (size ++ after)) → length size ≡ 4
    → (little_number 4 size ≢ 0xFFFFFFFF → little_number 4 size % (2 * f.channels) ≡ 0)
    → Opens bytes f (little_number 4 size) after
sized_opens bytes cs f size after p four whole = record {
  chunks = cs;
  size_bytes = size;
  place = p;
  size_is_four = four;
  size_is = refl;
  whole = whole;
}

content_opens : (bytes : List ℕ) (cs : List Chunk) (f : Format) (size after : List ℕ) (r : FormatFault) →
    Place bytes cs (Some f) (codes "data" ++ (size ++ after)) → length size ≡ 4
    → ContentFails (2 * f.channels) (little_number 4 size) after r → (open_at bytes ≡ Err r) ⊎ SomeOpens bytes
content_opens bytes cs f size after r p four (is_not_whole known part) =
    inl (not_whole_stops bytes cs f size after p four known part)
content_opens bytes cs f size after r p four (is_cut known whole lt) =
    inr (f, little_number 4 size, after, sized_opens bytes cs f size after p four (λ x. whole))
content_opens bytes cs f size after r p four (is_long is lt) =
    inr (f, little_number 4 size, after, sized_opens bytes cs f size after p four (λ x. absurd (x is)))
content_opens bytes cs f size after r p four (is_partial is le part) =
    inr (f, little_number 4 size, after, sized_opens bytes cs f size after p four (λ x. absurd (x is)))

-- a fault comes before the content, or the input opens
fault_opens : (bytes : List ℕ) (r : FormatFault) → HasFault bytes r → (open_at bytes ≡ Err r) ⊎ SomeOpens bytes
fault_opens bytes r has =
    elim (riff_or_place bytes r has) [
      | inl e ↦ inl (riff_stops bytes r e)
      | inr p ↦ elim (place_fails (65536 - length p.chunks) (length p.chunks) p.seen p.rest r
          (omega (arith, p.place.few)) p.fault) [
            | inl h ↦ inl (data_stops bytes p.chunks p.seen p.rest r p.place h)
            | inr d ↦ content_opens bytes p.chunks d.format d.size d.after r
                (data_place bytes p.chunks p.seen p.rest d.format d.size d.after p.place d.known d.header.whole)
                d.header.size_is_four d.fails
          ]
    ]

whole_size : (align size : ℕ) (content rest : List ℕ) → Content size content rest → length content % align ≡ 0 →
    size ≢ 0xFFFFFFFF → size % align ≡ 0
whole_size align size content rest (inl known) whole x = ap (λ n. n % align) (sym known.1) ∙ whole
whole_size align size content rest (inr filled) whole x = absurd (x filled.0)

sized_content : (size : ℕ) (content rest : List ℕ) (samples : ℕ) → Content size content rest → size ≢ 0xFFFFFFFF →
    samples ≡ length content / 2 → length content % 2 ≡ 0 → size ≡ 2 * samples
sized_content size content rest samples (inl known) x count even = omega (arith, known.1)
sized_content size content rest samples (inr filled) x count even = absurd (x filled.0)

opens_of : (bytes : List ℕ) (s : Sound) (rest : List ℕ) (w : IsWav bytes s rest) →
    Opens bytes w.format (little_number 4 w.size) (w.content ++ rest)
opens_of bytes s rest w =
    sized_opens bytes w.chunks w.format w.size (w.content ++ rest) w.place w.size_is_four
    (whole_size (2 * w.format.channels) (little_number 4 w.size) w.content rest w.content_is w.whole)

pub wav_opens : (bytes : List ℕ) (s : Sound) (rest : List ℕ) → IsWav bytes s rest → SomeOpens bytes
wav_opens bytes s rest w = (w.format, little_number 4 w.size, w.content ++ rest, opens_of bytes s rest w)

-- with the format of its sound, and a size that is filled in is that of its samples
pub wav_opens_as : (bytes : List ℕ) (s : Sound) (rest : List ℕ) → IsWav bytes s rest → OpensAs bytes s
wav_opens_as bytes s rest w =
    let same : ◌≡◌ {A = Format} w.format (record { rate = s.rate; channels = s.channels }) =
    rw (w.rate, w.channels) refl in
    record {
      size = little_number 4 w.size;
      rest = w.content ++ rest;
      opens = subst (λ (f : Format). Opens bytes f (little_number 4 w.size) (w.content ++ rest)) same
          (opens_of bytes s rest w);
      sized = λ known. sized_content (little_number 4 w.size) w.content rest (length s.samples) w.content_is known
          (ap length w.samples ∙ pcm_count w.content) (whole_is_even (length w.content) w.format.channels w.whole);
    }

-- ---- what is read opens

same_opening : (bytes : List ℕ) (d : DataStart) (rest : List ℕ) → open_at bytes ≡ Ok (d, rest) → SomeOpens bytes →
    Opens bytes d.format d.size rest
same_opening bytes d rest e (f, size, after, o) =
    let h : opened (record { format = f; size = size }) after ≡ opened d rest =
    sym (opens_reads bytes f size after o) ∙ e in
    let both : ◌≡◌ {A = DataStart × List ℕ} (record { format = f; size = size }, after) (d, rest) = cc in
    subst (λ (x : DataStart × List ℕ). Opens bytes x.0.format x.0.size x.1) both o

open_opens : (bytes : List ℕ) (d : DataStart) (rest : List ℕ) → open_at bytes ≡ Ok (d, rest) →
    Opens bytes d.format d.size rest
open_opens bytes d rest e =
    elim (some_outcome bytes) [
      | inl (s, after, is) ↦ same_opening bytes d rest e (wav_opens bytes s after is)
      | inr (r, has) ↦ elim (fault_opens bytes r has) [
        | inl h ↦ let clash : fault r ≡ opened d rest = sym h ∙ e in absurd cc
        | inr some ↦ same_opening bytes d rest e some
      ]
    ]

fails_to_open : (bytes : List ℕ) (r : FormatFault) → open_at bytes ≡ Err r → FailsToOpen bytes r
fails_to_open bytes r e = record {
  has = fault_of bytes r (outcome bytes) (open_fails bytes r e);
  opens_not = λ f size rest o. let clash : fault r ≡ opened (record { format = f; size = size }) rest =
      sym e ∙ opens_reads bytes f size rest o in cc;
}

read_to_start : (bytes : List ℕ) (f : Format) (size : ℕ) (rest : List ℕ) → Opens bytes f size rest →
    IsReadTo bytes (at_start f size) [] rest
read_to_start bytes f size rest o = record {
  gone = [];
  opens = o;
  count = refl;
  samples_are = refl;
  whole = zero-mod (2 * f.channels);
  within = elim (eqb_tells size 4294967295) [
    | inl unknown ↦ inr (unknown.1, omega arith)
    | inr known ↦ inl (known.1, o.whole known.1, omega arith)
  ];
}

-- ---- what an opening answers

abbrev begun : Result DataStart ReadFault → Result ContentInValue WavFault
begun (Ok d) = Ok (at_start d.format d.size)
begun (Err e) = Err (wav_fault e)

pub opening_answers : (a b : Option (List ℕ)) (r : Result DataStart ReadFault) → Reads (λ x. x) a b open_at r →
    AnswersOpening a b (begun r)
opening_answers a b (Ok d) h = Known-weaker h (λ x y p. (read_to_start x d.format d.size y (open_opens x d y p.0), p.1))
opening_answers a b (Err (read_faults.Format f)) h = Known-weaker h (λ x y p. (fails_to_open x f p.0, p.1))
opening_answers a b (Err read_faults.OutOfMemory) h = Known-weaker h (λ x y p. p.1)
opening_answers a b (Err read_faults.Device) h = Known-weaker h (λ x y p. p.1)

pub opening_accepts : (a b : Option (List ℕ)) (r : Result DataStart ReadFault) → Reads (λ x. x) a b open_at r
    → (input : List ℕ) (f : Format) (size : ℕ) (rest : List ℕ) → a ≡ Some input → Opens input f size rest →
    OpensTo b f size rest (begun r)
opening_accepts a b (Ok d) h input f size rest e o =
    let m = h.at input e in
    let same : opened d m.0 ≡ opened (record { format = f; size = size }) rest =
    sym m.2.0 ∙ opens_reads input f size rest o in
    let both : ◌≡◌ {A = DataStart × List ℕ} (d, m.0) (record { format = f; size = size }, rest) = cc in (
      ap (λ (x : DataStart × List ℕ). at_start x.0.format x.0.size) both,
      m.1 ∙ ap (λ (x : DataStart × List ℕ). Some x.1) both,
    )
opening_accepts a b (Err (read_faults.Format g)) h input f size rest e o =
    let m = h.at input e in
    let clash : fault g ≡ opened (record { format = f; size = size }) rest =
    sym m.2.0 ∙ opens_reads input f size rest o in
    absurd cc
opening_accepts a b (Err read_faults.OutOfMemory) h input f size rest e o = inl refl
opening_accepts a b (Err read_faults.Device) h input f size rest e o = inr refl

pub opening_refuses : (a b : Option (List ℕ)) (r : Result DataStart ReadFault) → Reads (λ x. x) a b open_at r
    → (input : List ℕ) (f : FormatFault) → a ≡ Some input → HasFault input f →
    ((g : Format) (size : ℕ) (rest : List ℕ) → Opens input g size rest → ⊥) → RefusesToOpen f (begun r)
opening_refuses a b (Ok d) h input f e has none =
    let m = h.at input e in
    none d.format d.size m.0 (open_opens input d m.0 m.2.0)
opening_refuses a b (Err (read_faults.Format g)) h input f e has none =
    let m = h.at input e in
    inl (ap faults.Format (one_fault input g f (fails_to_open input g m.2.0).has has))
opening_refuses a b (Err read_faults.OutOfMemory) h input f e has none = inr (inl refl)
opening_refuses a b (Err read_faults.Device) h input f e has none = inr (inr refl)
