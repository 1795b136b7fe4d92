-- Each list of bytes is a WAV file with a rest behind it, or has a fault.
use Rattle.std.proofs.Common.{◌≡◌, ◌≢◌, ◌⊎◌, inl, inr, ℕ, zero, suc, ◌+◌, ◌*◌, ◌%◌, ◌<◌, ◌≤◌, min, Bool, true, false}
use Rattle.std.proofs.Common.{not, ◌&&◌, ◌||◌, cond, ltb, eqb, List, [], ◌∷◌, ◌++◌, length, take, drop, Option, Some}
use Rattle.std.proofs.Common.{None, Result, Ok, Err, refl, sym, ap, subst, ◌∙◌, arith, length-take, length-drop}
use Rattle.std.proofs.Common.{append-nil}
use Rattle.std.specs.Prelude.{codes}
use Rattle.std.specs.List.{AllByRecursion}
use Rattle.std.specs.Str.{bytes_eq}
use Rattle.std.proofs.lemmas.Slice.Eq.{bytes_eq-Decides}
use Rattle.std.proofs.lemmas.Bool.{cases_lt, ltb-false, eqb-true, eqb-false}
use Rattle.std.proofs.lemmas.Bool.Decides.{eqb_tells}
use Rattle.std.proofs.lemmas.List.{drop-drop, take-append-drop, take-take, drop-take, nil_from_length}
use Rattle.byteorder.specs.Endian.{little_number}
use Rattle.sdf_wav.specs.declared.fault.FormatFault.{FormatFault}
use Rattle.sdf_wav.specs.declared.fault.FormatFault.TheVariants.{NotRiff, NotWave, NoFormat, NoData, Truncated, TooLong}
use Rattle.sdf_wav.specs.declared.fault.FormatFault.TheVariants.{ShortFormat, PartialFrame}
use Rattle.sdf_wav.specs.declared.format.Format.{Format}
use Rattle.sdf_wav.specs.declared.parts.Fields.{Fields}
use Rattle.sdf_wav.specs.Sound.{Sound, pcm_samples}
use Rattle.sdf_wav.specs.Parts.{pcm_guid, fields_of, checked, format_of}
use Rattle.sdf_wav.specs.Grammar.{Chunk, IsChunk, IsOther, IsNoData, IsContentOf, IsFormatChunk, Parts, Behind, Place}
use Rattle.sdf_wav.specs.Grammar.{Content, IsWav}
use Rattle.sdf_wav.specs.Fault.{IsHeader, PlaceFault, HasFault, ends_early, ends_before_data, header_cut, too_many}
use Rattle.sdf_wav.specs.Fault.{data_too_early, format_short, format_cut, format_bad, content_cut, data_partial}
use Rattle.sdf_wav.specs.Fault.{data_cut, open_long, open_partial, riff_cut, not_riff, wave_cut, not_wave, at_place}
use Rattle.sdf_wav.proofs.StepReads.{id_cases}
use Rattle.sdf_wav.proofs.Formats.{fields_of-take}

-- ---- tests

guard_ok : {A : Type 0} (b : Bool) (d : FormatFault) (x : Result A FormatFault) (y : A) → cond b (Err d) x ≡ Ok y →
    (b ≡ false) × (x ≡ Ok y)
guard_ok true d x y e = absurd cc
guard_ok false d x y e = (refl, e)

or_false : (a b : Bool) → (a || b) ≡ false → (a ≡ false) × (b ≡ false)
or_false true b e = absurd cc
or_false false b e = (refl, e)

and_true : (a b : Bool) → (a && b) ≡ true → (a ≡ true) × (b ≡ true)
and_true true b e = (refl, e)
and_true false b e = absurd cc

or_true : (a b : Bool) → (a || b) ≡ true → (a ≡ true) ⊎ (b ≡ true)
or_true true b e = inl refl
or_true false b e = inr e

not_false : (a : Bool) → not a ≡ false → a ≡ true
not_false true e = refl
not_false false e = absurd cc

and_false : (a b : Bool) → (a && b) ≡ false → a ≡ true → b ≡ false
and_false true b e h = e
and_false false b e h = absurd cc

same_ok : {A : Type 0} (x y : A) → ◌≡◌ {A = Result A FormatFault} (Ok x) (Ok y) → x ≡ y
same_ok x y e = cc

-- ---- the content of a format chunk

record Passed (t : Fields) (front : List ℕ) (f : Format) : Type 0 where
  tag : (t.tag ≡ 1) ⊎ ((t.tag ≡ 0xFFFE) × (40 ≤ length front) × (take 16 (drop 24 front) ≡ pcm_guid))
  bits : t.bits ≡ 16
  one_channel : 1 ≤ t.channels
  few_channels : t.channels ≤ 8
  some_rate : 1 ≤ t.rate
  align : t.align ≡ 2 * t.channels
  channels : t.channels ≡ f.channels
  rate : t.rate ≡ f.rate

checked_passes : (t : Fields) (front : List ℕ) (f : Format) → checked t front ≡ Ok f → Passed t front f
checked_passes t front f e =
    let a = guard_ok _ _ _ f e in
    let b = guard_ok _ _ _ f a.1 in
    let c = guard_ok _ _ _ f b.1 in
    let d = guard_ok _ _ _ f c.1 in
    let g = guard_ok _ _ _ f d.1 in
    let pcm = and_true (eqb t.bits 16) _ (not_false _ b.0) in
    let ch = or_false (eqb t.channels 0) (ltb 8 t.channels) c.0 in
    let made : Format = record { rate = t.rate; channels = t.channels } in
    let is : made ≡ f = same_ok made f g.1 in
    let some_channel : t.channels ≢ 0 = eqb-false t.channels 0 ch.0 in
    let some : t.rate ≢ 0 = eqb-false t.rate 0 d.0 in
    record {
      tag = elim (or_true (eqb t.tag 1) _ pcm.1) [
        | inl plain ↦ inl (eqb-true t.tag 1 plain)
        | inr ext ↦
            let x = and_true (eqb t.tag 65534) (bytes_eq (take 16 (drop 24 front)) pcm_guid) ext in
            inr (
              eqb-true t.tag 65534 x.0,
              ltb-false (length front) 40
                  (and_false (eqb t.tag 65534) (ltb (length front) 40) a.0 x.0),
              (bytes_eq-Decides (take 16 (drop 24 front)) pcm_guid).0 x.1,
            )
      ];
      bits = eqb-true t.bits 16 pcm.0;
      one_channel = omega arith;
      few_channels = ltb-false 8 t.channels ch.1;
      some_rate = omega arith;
      align = eqb-true t.align (2 * t.channels) (not_false _ g.0);
      channels = ap (λ (x : Format). x.channels) is;
      rate = ap (λ (x : Format). x.rate) is;
    }

content_of : (content : List ℕ) (f : Format) (size : ℕ) → length content ≡ size → 16 ≤ size →
    format_of (take (min size 40) content) ≡ Ok f → IsContentOf content f
unfolding format_of
content_of content f size e long h =
    let front = take (min size 40) content in
    let m : 16 ≤ min size 40 = omega arith in
    let p : Passed (fields_of content) front f = subst (λ (t : Fields). Passed t front f)
    (fields_of-take (min size 40) content m) (checked_passes (fields_of front) front f h) in
    record {
      long = omega arith;
      tag = elim p.tag [
        | inl plain ↦ inl plain
        | inr ext ↦
            let k : min size 40 ≡ 40 = omega (arith, length-take (min size 40) content, ext.1) in
            inr (
              ext.0,
              omega (arith, length-take (min size 40) content, ext.1),
              sym (ap (λ (j : ℕ). take 16 (drop 24 (take j content))) k ∙ ap (take 16) (drop-take 24 16 content)
                  ∙ take-take 16 16 (drop 24 content) (omega arith)) ∙ ext.2,
            )
      ];
      bits = p.bits;
      channels = p.channels;
      one_channel = omega (arith, p.one_channel, p.channels);
      few_channels = omega (arith, p.few_channels, p.channels);
      rate = p.rate;
      some_rate = omega (arith, p.some_rate, p.rate);
      align = omega (arith, p.align, p.channels);
    }

-- ---- the cases at a place

data HeaderCase (rest : List ℕ) : Type 0 where
  empty : rest ≡ [] → HeaderCase rest
  cut : 0 < length rest → length rest < 8 → HeaderCase rest
  header : (id size after : List ℕ) → IsHeader rest id size after → HeaderCase rest

whole_header : (rest : List ℕ) → 8 ≤ length rest → IsHeader rest (take 4 rest) (take 4 (drop 4 rest)) (drop 8 rest)
whole_header rest h = record {
  id_is_four = omega (arith, length-take 4 rest);
  size_is_four = omega (arith, length-take 4 (drop 4 rest), length-drop 4 rest);
  whole = sym (ap (λ l. take 4 rest ++ l) (ap (λ l. take 4 (drop 4 rest) ++ l) (sym (drop-drop 4 4 rest))
      ∙ take-append-drop 4 (drop 4 rest)) ∙ take-append-drop 4 rest);
}

header_case : (rest : List ℕ) → HeaderCase rest
header_case rest =
    elim (cases_lt (length rest) 8) [
      | inl few ↦ elim (cases_lt 0 (length rest)) [
        | inl more ↦ cut more few
        | inr none ↦ empty (nil_from_length rest (omega arith))
      ]
      | inr long ↦ header (take 4 rest) (take 4 (drop 4 rest)) (drop 8 rest) (whole_header rest long)
    ]

-- how one chunk changes what is known
abbrev One : Option Format → Chunk → Option Format → Type 0
One None c now = (IsOther c × (now ≡ None)) ⊎ ((f : Format) × IsFormatChunk c f × (now ≡ Some f))
One (Some g) c now = IsNoData c × (now ≡ Some g)

data ChunkCase (seen : Option Format) (rest : List ℕ) : Type 0 where
  faulty : (r : FormatFault) → ((passed : ℕ) → passed < 65536 → PlaceFault seen passed rest r) → ChunkCase seen rest
  goes : (c : Chunk) (after : List ℕ) (now : Option Format) → rest ≡ c.id ++ (c.size ++ (c.content ++ after)) →
      One seen c now → ChunkCase seen rest

-- the chunk that a header and bytes enough behind it make
abbrev chunk_of : List ℕ → List ℕ → List ℕ → Chunk
chunk_of id size after = record { id = id; size = size; content = take (little_number 4 size) after }

is_chunk : (rest id size after : List ℕ) → IsHeader rest id size after → little_number 4 size ≤ length after →
    IsChunk (chunk_of id size after)
is_chunk rest id size after h long = record {
  id_is_four = h.id_is_four;
  size_is_four = h.size_is_four;
  content_is_size = omega (arith, length-take (little_number 4 size) after);
}

chunk_whole : (rest id size after : List ℕ) → IsHeader rest id size after →
    rest ≡ id ++ (size ++ (take (little_number 4 size) after ++ drop (little_number 4 size) after))
chunk_whole rest id size after h = h.whole ∙ ap (λ l. id ++ (size ++ l))
    (sym (take-append-drop (little_number 4 size) after))

by_format : (rest size after : List ℕ) → IsHeader rest (codes "fmt ") size after → 16 ≤ little_number 4 size →
    little_number 4 size ≤ length after
    → (r : Result Format FormatFault) → format_of (take (min (little_number 4 size) 40) after) ≡ r → ChunkCase None rest
by_format rest size after h long enough (Err r) e =
    faulty r (λ passed more. format_bad size after r h refl more long enough e)
by_format rest size after h long enough (Ok f) e =
    let n = little_number 4 size in
    let len : length (take n after) ≡ n = omega (arith, length-take n after) in
    let front : take (min n 40) (take n after) ≡ take (min n 40) after = take-take (min n 40) n after (omega arith) in
    let is : IsContentOf (take n after) f = content_of (take n after) f n len long (ap format_of front ∙ e) in
    goes (chunk_of (codes "fmt ") size after) (drop n after) (Some f) (chunk_whole rest (codes "fmt ") size after h)
    (inr (f, record { chunk = is_chunk rest (codes "fmt ") size after h enough; format = refl; content_of = is }, refl))

-- a chunk whose format is asked for
format_case : (rest size after : List ℕ) → IsHeader rest (codes "fmt ") size after → ChunkCase None rest
format_case rest size after h =
    let n = little_number 4 size in
    elim (cases_lt n 16) [
      | inl short ↦ faulty ShortFormat (λ passed more. format_short size after h refl more short)
      | inr long ↦ elim (cases_lt (length after) n) [
        | inl few ↦ faulty Truncated (λ passed more. format_cut size after h refl more long few)
        | inr enough ↦ by_format rest size after h long enough (format_of (take (min n 40) after)) refl
      ]
    ]

-- any other chunk before the data
skip_case : (seen : Option Format) (rest id size after : List ℕ) → IsHeader rest id size after → id ≢ codes "data" →
    (seen ≡ None → id ≢ codes "fmt ")
    → ((c : Chunk) → c ≡ chunk_of id size after → IsChunk c → One seen c seen) → ChunkCase seen rest
skip_case seen rest id size after h d f one =
    let n = little_number 4 size in
    elim (cases_lt (length after) n) [
      | inl few ↦ faulty Truncated (λ passed more. content_cut id size after h d f more few)
      | inr enough ↦ goes (chunk_of id size after) (drop n after) seen (chunk_whole rest id size after h)
          (one (chunk_of id size after) refl (is_chunk rest id size after h enough))
    ]

chunk_case : (seen : Option Format) (rest id size after : List ℕ) → IsHeader rest id size after → id ≢ codes "data" →
    ChunkCase seen rest
chunk_case None rest id size after h d =
    elim (id_cases id (codes "fmt ")) [
      | inl e ↦ format_case rest size after (subst (λ (x : List ℕ). IsHeader rest x size after) e h)
      | inr f ↦ skip_case None rest id size after h d (λ x. f)
          (λ c e is. inl (record { chunk = is; not_data = rw e d; not_format = rw e f }, refl))
    ]
chunk_case (Some g) rest id size after h d =
    skip_case (Some g) rest id size after h d (λ x. absurd cc)
    (λ c e is. (record { chunk = is; not_data = rw e d }, refl))

-- ---- over all chunks

abbrev Passes : Option Format → List Chunk → Option Format → Type 0
Passes (Some g) cs now = (now ≡ Some g) × AllByRecursion IsNoData cs
Passes None [] now = now ≡ None
Passes None (c ∷ cs) now = (IsOther c × Passes None cs now)
    ⊎ ((f : Format) × IsFormatChunk c f × (now ≡ Some f) × AllByRecursion IsNoData cs)

Behind-cons : (c : Chunk) (cs : List Chunk) (now : Option Format) → IsOther c → Behind cs now → Behind (c ∷ cs) now
Behind-cons c cs None o b = (o, b)
Behind-cons c cs (Some f) o (before, format, between, split, others, is, later) =
    (c ∷ before, format, between, ap (λ l. c ∷ l) split, (o, others), is, later)

Behind-passes : (cs : List Chunk) (now : Option Format) → Passes None cs now → Behind cs now
Behind-passes [] now e = rw e tt
Behind-passes (c ∷ cs) now (inl p) = Behind-cons c cs now p.0 (Behind-passes cs now p.1)
Behind-passes (c ∷ cs) now (inr p) = rw p.2 ([], c, cs, refl, tt, p.1, p.3)

Passes-cons : (seen mid now : Option Format) (c : Chunk) (cs : List Chunk) → One seen c mid → Passes mid cs now →
    Passes seen (c ∷ cs) now
Passes-cons None mid now c cs (inl o) p = inl (o.0, subst (λ (m : Option Format). Passes m cs now) o.1 p)
Passes-cons None mid now c cs (inr o) p =
    let q : Passes (Some o.0) cs now = subst (λ (m : Option Format). Passes m cs now) o.2 p in
    inr (o.0, o.1, q.0, q.1)
Passes-cons (Some g) mid now c cs o p =
    let q : Passes (Some g) cs now = subst (λ (m : Option Format). Passes m cs now) o.1 p in
    (q.0, (o.0, q.1))

Passes-nil : (seen : Option Format) → Passes seen [] seen
Passes-nil None = refl
Passes-nil (Some g) = (refl, tt)

-- the data stands there, whole
record Data (now : Option Format) (rest : List ℕ) : Type 0 where
  format : Format
  size : List ℕ
  content : List ℕ
  after : List ℕ
  known : now ≡ Some format
  bytes : rest ≡ codes "data" ++ (size ++ (content ++ after))
  size_is_four : length size ≡ 4
  content_is : Content (little_number 4 size) content after
  whole : length content % (2 * format.channels) ≡ 0

abbrev End : Option Format → ℕ → List ℕ → Type 0
End now passed rest = ((r : FormatFault) × PlaceFault now passed rest r) ⊎ Data now rest

record Reach (m passed : ℕ) (seen : Option Format) (bytes : List ℕ) : Type 0 where
  cs : List Chunk
  now : Option Format
  rest : List ℕ
  parts : Parts bytes cs rest
  passes : Passes seen cs now
  few : length cs ≤ m
  end : End now (passed + length cs) rest

here : (m passed : ℕ) (seen : Option Format) (bytes : List ℕ) → End seen passed bytes → Reach m passed seen bytes
here m passed seen bytes e = record {
  cs = [];
  now = seen;
  rest = bytes;
  parts = refl;
  passes = Passes-nil seen;
  few = omega arith;
  end = subst (λ k. End seen k bytes) {y = passed + 0} (omega arith) e;
}

ends : (passed : ℕ) (seen : Option Format) (rest : List ℕ) → rest ≡ [] → End seen passed rest
ends passed None rest e = inl (NoFormat, ends_early refl e)
ends passed (Some f) rest e = inl (NoData, ends_before_data f refl e)

data_case : (passed : ℕ) (seen : Option Format) (rest size after : List ℕ) → IsHeader rest (codes "data") size after →
    End seen passed rest
data_case passed None rest size after h = inl (NoFormat, data_too_early size after h refl)
data_case passed (Some f) rest size after h =
    let n = little_number 4 size in
    let align = 2 * f.channels in
    elim (eqb_tells n 4294967295) [
      | inl unsized ↦ elim (cases_lt 4294967294 (length after)) [
        | inl long ↦ inl (TooLong, open_long f size after h refl unsized.1 long)
        | inr fits ↦ elim (eqb_tells (length after % align) 0) [
          | inl whole ↦ inr (record {
            format = f;
            size = size;
            content = after;
            after = [];
            known = refl;
            bytes = h.whole ∙ ap (λ l. codes "data" ++ (size ++ l)) (sym (append-nil after));
            size_is_four = h.size_is_four;
            content_is = inr (unsized.1, fits, refl);
            whole = whole.1;
          })
          | inr partial ↦ inl (PartialFrame, open_partial f size after h refl unsized.1 fits partial.1)
        ]
      ]
      | inr sized ↦ elim (eqb_tells (n % align) 0) [
        | inl whole ↦ elim (cases_lt (length after) n) [
          | inl few ↦ inl (Truncated, data_cut f size after h refl sized.1 whole.1 few)
          | inr enough ↦
              let len : length (take n after) ≡ n = omega (arith, length-take n after) in
              inr (record {
                format = f;
                size = size;
                content = take n after;
                after = drop n after;
                known = refl;
                bytes = chunk_whole rest (codes "data") size after h;
                size_is_four = h.size_is_four;
                content_is = inl (sized.1, len);
                whole = rw len whole.1;
              })
        ]
        | inr partial ↦ inl (PartialFrame, data_partial f size after h refl sized.1 partial.1)
      ]
    ]

-- one chunk more
more : (m passed : ℕ) (seen now : Option Format) (bytes after : List ℕ) (c : Chunk) →
    bytes ≡ c.id ++ (c.size ++ (c.content ++ after)) → One seen c now
    → Reach m (passed + 1) now (drop (length c.content % 2) after) → Reach (suc m) passed seen bytes
more m passed seen now bytes after c split one r = record {
  cs = c ∷ r.cs;
  now = r.now;
  rest = r.rest;
  parts = (after, split, r.parts);
  passes = Passes-cons seen now r.now c r.cs one r.passes;
  few = omega (arith, r.few);
  end = subst (λ k. End r.now k r.rest) {x = passed + 1 + length r.cs} (omega arith) r.end;
}

reach_last : (passed : ℕ) (seen : Option Format) (bytes : List ℕ) → passed ≡ 65536 → HeaderCase bytes →
    Reach 0 passed seen bytes
reach_last passed seen bytes e (empty n) = here 0 passed seen bytes (ends passed seen bytes n)
reach_last passed seen bytes e (cut a b) = here 0 passed seen bytes (inl (Truncated, header_cut a b))
reach_last passed seen bytes e (header id size after h) =
    here 0 passed seen bytes (elim (id_cases id (codes "data")) [
      | inl d ↦ data_case passed seen bytes size after (subst (λ (x : List ℕ). IsHeader bytes x size after) d h)
      | inr d ↦ inl (TooLong, too_many id size after h d e)
    ])

go_on : (m passed : ℕ) (seen : Option Format) (bytes : List ℕ) → passed < 65536 →
    ((now : Option Format) (after : List ℕ) → Reach m (passed + 1) now after) → ChunkCase seen bytes →
    Reach (suc m) passed seen bytes
go_on m passed seen bytes lt next (faulty r fault) = here (suc m) passed seen bytes (inl (r, fault passed lt))
go_on m passed seen bytes lt next (goes c after now split one) =
    more m passed seen now bytes after c split one (next now (drop (length c.content % 2) after))

reach_next : (m passed : ℕ) (seen : Option Format) (bytes : List ℕ) → passed < 65536 →
    ((now : Option Format) (after : List ℕ) → Reach m (passed + 1) now after) → HeaderCase bytes →
    Reach (suc m) passed seen bytes
reach_next m passed seen bytes lt next (empty n) = here (suc m) passed seen bytes (ends passed seen bytes n)
reach_next m passed seen bytes lt next (cut a b) = here (suc m) passed seen bytes (inl (Truncated, header_cut a b))
reach_next m passed seen bytes lt next (header id size after h) =
    elim (id_cases id (codes "data")) [
      | inl d ↦ here (suc m) passed seen bytes (data_case passed seen bytes size after
          (subst (λ (x : List ℕ). IsHeader bytes x size after) d h))
      | inr d ↦ go_on m passed seen bytes lt next (chunk_case seen bytes id size after h d)
    ]

reach : (m passed : ℕ) (seen : Option Format) (bytes : List ℕ) → passed + m ≡ 65536 → Reach m passed seen bytes
reach zero passed seen bytes e = reach_last passed seen bytes (omega arith) (header_case bytes)
reach (suc m) passed seen bytes e = reach_next m passed seen bytes (omega arith)
    (λ now after. reach m (passed + 1) now after (omega arith)) (header_case bytes)

-- ---- all bytes

pub data Outcome (bytes : List ℕ) : Type 0 where
  faulty : (r : FormatFault) → HasFault bytes r → Outcome bytes
  sounds : (s : Sound) (rest : List ℕ) → IsWav bytes s rest → Outcome bytes

at_body : (bytes riff_size body : List ℕ) → bytes ≡ codes "RIFF" ++ (riff_size ++ (codes "WAVE" ++ body)) →
    length riff_size ≡ 4 → Reach 65536 0 None body → Outcome bytes
at_body bytes riff_size body start four r =
    let place : Place bytes r.cs r.now r.rest = record {
      riff_size = riff_size;
      body = body;
      start = start;
      size_is_four = four;
      parts = r.parts;
      known = Behind-passes r.cs r.now r.passes;
      few = r.few;
    } in
    elim r.end [
      | inl fault ↦ faulty fault.0 (at_place r.cs r.now r.rest fault.0 place
          (subst (λ k. PlaceFault r.now k r.rest fault.0) {x = 0 + length r.cs} (omega arith) fault.1))
      | inr d ↦ sounds (record { rate = d.format.rate; channels = d.format.channels; samples = pcm_samples d.content })
          d.after (record {
            chunks = r.cs;
            format = d.format;
            size = d.size;
            content = d.content;
            place = subst (λ (x : Option Format × List ℕ). Place bytes r.cs x.0 x.1) (rw (d.known, d.bytes) refl) place;
            size_is_four = d.size_is_four;
            content_is = d.content_is;
            rate = refl;
            channels = refl;
            samples = refl;
            whole = d.whole;
          })
    ]

pub outcome : (bytes : List ℕ) → Outcome bytes
outcome bytes =
    elim (cases_lt (length bytes) 4) [
      | inl few ↦ faulty Truncated (riff_cut few)
      | inr four ↦ elim (id_cases (take 4 bytes) (codes "RIFF")) [
        | inr no_riff ↦ faulty NotRiff (not_riff four no_riff)
        | inl riff ↦ elim (cases_lt (length bytes) 12) [
          | inl few ↦ faulty Truncated (wave_cut four riff few)
          | inr twelve ↦ elim (id_cases (take 4 (drop 8 bytes)) (codes "WAVE")) [
            | inr no_wave ↦ faulty NotWave (not_wave riff twelve no_wave)
            | inl wave ↦
                at_body bytes (take 4 (drop 4 bytes)) (drop 12 bytes)
                (sym (ap (λ l. codes "RIFF" ++ (take 4 (drop 4 bytes) ++ l))
                (ap (λ l. l ++ drop 12 bytes) (sym wave)
                ∙ ap (λ l. take 4 (drop 8 bytes) ++ l) (sym (drop-drop 4 8 bytes))
                ∙ take-append-drop 4 (drop 8 bytes))
                ∙ ap (λ l. codes "RIFF" ++ (take 4 (drop 4 bytes) ++ l)) (sym (drop-drop 4 4 bytes))
                ∙ ap (λ l. codes "RIFF" ++ l) (take-append-drop 4 (drop 4 bytes))
                ∙ ap (λ l. l ++ drop 4 bytes) (sym riff) ∙ take-append-drop 4 bytes))
                (omega (arith, length-take 4 (drop 4 bytes), length-drop 4 bytes))
                (reach 65536 0 None (drop 12 bytes) refl)
          ]
        ]
      ]
    ]
