-- A fault that stands is the one that the reading answers.
use Rattle.std.proofs.Common.{◌≡◌, ◌≢◌, ◌⊎◌, inl, inr, ℕ, zero, suc, ◌+◌, ◌-◌, ◌*◌, ◌%◌, ◌<◌, ◌≤◌, min, Bool, true}
use Rattle.std.proofs.Common.{false, List, [], ◌++◌, length, take, drop, Option, Some, None, Result, Ok, Err, refl, ap}
use Rattle.std.proofs.Common.{◌∙◌, arith, length-take}
use Rattle.std.specs.Prelude.{codes}
use Rattle.std.proofs.lemmas.Bool.{le-ltb, lt-ltb, ne_eqb}
use Rattle.std.proofs.lemmas.List.{take-take, drop-take}
use Rattle.byteorder.specs.Endian.{little_number}
use Rattle.sdf_wav.specs.declared.fault.FormatFault.{FormatFault}
use Rattle.sdf_wav.specs.declared.fault.FormatFault.TheVariants.{NoFormat, NoData, Truncated, TooLong, ShortFormat}
use Rattle.sdf_wav.specs.declared.fault.FormatFault.TheVariants.{PartialFrame}
use Rattle.sdf_wav.specs.declared.format.Format.{Format}
use Rattle.sdf_wav.specs.Sound.{Sound}
use Rattle.sdf_wav.specs.Parts.{riff_of, format_of}
use Rattle.sdf_wav.specs.Content.{content_at}
use Rattle.sdf_wav.specs.Steps.{◌>>=◌, riff_at, header_at, looked_at, pcm_at, format_at, is_some, step_at, last_at}
use Rattle.sdf_wav.specs.Steps.{data_at, wav_at}
use Rattle.sdf_wav.specs.Grammar.{Chunk, Place}
use Rattle.sdf_wav.specs.Fault.{IsHeader, PlaceFault, HasFault, ends_early, ends_before_data, header_cut, too_many}
use Rattle.sdf_wav.specs.Fault.{data_too_early, format_short, format_cut, format_bad, content_cut, data_partial}
use Rattle.sdf_wav.specs.Fault.{data_cut, open_long, open_partial, riff_cut, not_riff, wave_cut, not_wave, at_place}
use Rattle.sdf_wav.proofs.StepReads.{header_reads, kind_is_other, id_cases, not_equal}
use Rattle.sdf_wav.proofs.Walk.{riff_reads, walk, data_at_here}

-- the header has a fault
header_short : (b : Bool) (rest : List ℕ) → 0 < length rest → length rest < 8 → header_at b rest ≡ Err Truncated
header_short b rest some few =
    let n : length (take 8 rest) ≡ length rest = omega (arith, length-take 8 rest) in
    rw (n, ne_eqb (length rest) 0 (λ e. omega arith), lt-ltb (length rest) 8 few) refl

no_header : (n : ℕ) (seen : Option Format) (rest : List ℕ) (r : FormatFault) → header_at (is_some seen) rest ≡ Err r →
    data_at n seen rest ≡ Err r
unfolding data_at step_at last_at
no_header zero seen rest r h = rw h refl
no_header (suc n) seen rest r h = rw h refl

-- the step has a fault
no_step : (n m : ℕ) (seen : Option Format) (rest : List ℕ) (r : FormatFault) → n ≡ suc m → step_at seen rest ≡ Err r →
    data_at n seen rest ≡ Err r
unfolding data_at
no_step n m seen rest r e h = rw (e, h) refl

last_too_many : (seen : Option Format) (id size after : List ℕ) → length id ≡ 4 → length size ≡ 4 → id ≢ codes "data" →
    data_at 0 seen (id ++ (size ++ after)) ≡ Err TooLong
unfolding data_at last_at
last_too_many seen id size after i s d =
    elim (id_cases id (codes "fmt ")) [
      | inl e ↦ rw (header_reads (is_some seen) id size after i s, e) refl
      | inr f ↦ rw (header_reads (is_some seen) id size after i s, kind_is_other id d f) refl
    ]

early : (n : ℕ) (size after : List ℕ) → length size ≡ 4 →
    data_at n None (codes "data" ++ (size ++ after)) ≡ Err NoFormat
unfolding data_at step_at last_at
early zero size after s = rw (header_reads false (codes "data") size after refl s) refl
early (suc n) size after s = rw (header_reads false (codes "data") size after refl s) refl

format_fault : (size after : List ℕ) (r : FormatFault) → length size ≡ 4 →
    format_at (little_number 4 size) after ≡ Err r → step_at None (codes "fmt " ++ (size ++ after)) ≡ Err r
unfolding step_at
format_fault size after r s h = rw (header_reads false (codes "fmt ") size after refl s, h) refl

format_is_short : (size : ℕ) (after : List ℕ) → size < 16 → format_at size after ≡ Err ShortFormat
unfolding format_at
format_is_short size after lt = rw (lt-ltb size 16 lt) refl

format_is_cut : (size : ℕ) (after : List ℕ) → 16 ≤ size → length after < size → format_at size after ≡ Err Truncated
unfolding format_at pcm_at looked_at
format_is_cut size after le lt = rw (le-ltb size 16 le, lt-ltb (length after) size lt) refl

format_is_bad : (size : ℕ) (after : List ℕ) (r : FormatFault) → 16 ≤ size → size ≤ length after →
    format_of (take (min size 40) after) ≡ Err r → format_at size after ≡ Err r
unfolding format_at pcm_at looked_at
format_is_bad size after r le long h = rw (le-ltb size 16 le, le-ltb (length after) size long, h) refl

skip_fault : (seen : Option Format) (id size after : List ℕ) → length id ≡ 4 → length size ≡ 4 → id ≢ codes "data" →
    (seen ≡ None → id ≢ codes "fmt ") → length after < little_number 4 size →
    step_at seen (id ++ (size ++ after)) ≡ Err Truncated
unfolding step_at
skip_fault None id size after i s d f lt = rw (
  header_reads false id size after i s,
  kind_is_other id d (f refl),
  lt-ltb (length after) (little_number 4 size) lt,
) refl
skip_fault (Some g) id size after i s d f lt =
    elim (id_cases id (codes "fmt ")) [
      | inl e ↦ rw (header_reads true id size after i s, e, lt-ltb (length after) (little_number 4 size) lt) refl
      | inr o ↦ rw (
        header_reads true id size after i s,
        kind_is_other id d o,
        lt-ltb (length after) (little_number 4 size) lt,
      ) refl
    ]

-- how a content fails
pub data ContentFails (align size : ℕ) (after : List ℕ) : FormatFault → Type 0 where
  is_not_whole : size ≢ 0xFFFFFFFF → size % align ≢ 0 → ContentFails align size after PartialFrame
  is_cut : size ≢ 0xFFFFFFFF → size % align ≡ 0 → length after < size → ContentFails align size after Truncated
  is_long : size ≡ 0xFFFFFFFF → 4294967294 < length after → ContentFails align size after TooLong
  is_partial : size ≡ 0xFFFFFFFF → length after ≤ 4294967294 → length after % align ≢ 0 →
      ContentFails align size after PartialFrame

pub sized_partial : (align size : ℕ) (after : List ℕ) → size ≢ 0xFFFFFFFF → size % align ≢ 0 →
    content_at align size after ≡ Err PartialFrame
unfolding content_at
sized_partial align size after ne part = rw (ne_eqb size 4294967295 ne, ne_eqb (size % align) 0 part) refl

sized_cut : (align size : ℕ) (after : List ℕ) → size ≢ 0xFFFFFFFF → size % align ≡ 0 → length after < size →
    content_at align size after ≡ Err Truncated
unfolding content_at
sized_cut align size after ne whole lt = rw (ne_eqb size 4294967295 ne, whole, lt-ltb (length after) size lt) refl

unsized_long : (align size : ℕ) (after : List ℕ) → size ≡ 0xFFFFFFFF → 4294967294 < length after →
    content_at align size after ≡ Err TooLong
unfolding content_at
unsized_long align size after e lt = rw (e, lt-ltb 4294967294 (length after) lt) refl

unsized_partial : (align size : ℕ) (after : List ℕ) → size ≡ 0xFFFFFFFF → length after ≤ 4294967294 →
    length after % align ≢ 0 → content_at align size after ≡ Err PartialFrame
unfolding content_at
unsized_partial align size after e le part = rw (
  e,
  le-ltb 4294967294 (length after) le,
  ne_eqb (length after % align) 0 part,
) refl

content_fails : (align size : ℕ) (after : List ℕ) (r : FormatFault) → ContentFails align size after r →
    content_at align size after ≡ Err r
content_fails align size after r (is_not_whole ne part) = sized_partial align size after ne part
content_fails align size after r (is_cut ne whole lt) = sized_cut align size after ne whole lt
content_fails align size after r (is_long is lt) = unsized_long align size after is lt
content_fails align size after r (is_partial is le part) = unsized_partial align size after is le part

-- data stands there, whose content fails
pub record DataFails (seen : Option Format) (rest : List ℕ) (r : FormatFault) : Type 0 where
  pub format : Format
  pub size : List ℕ
  pub after : List ℕ
  pub known : seen ≡ Some format
  pub header : IsHeader rest (codes "data") size after
  pub fails : ContentFails (2 * format.channels) (little_number 4 size) after r

data_fails : (n : ℕ) {seen : Option Format} {rest : List ℕ} {r : FormatFault} (f : Format) (size after : List ℕ) →
    IsHeader rest (codes "data") size after → seen ≡ Some f
    → ContentFails (2 * f.channels) (little_number 4 size) after r →
    (data_at n seen rest ≡ Err r) ⊎ DataFails seen rest r
data_fails n f size after h s x = inr (record {
  format = f;
  size = size;
  after = after;
  known = s;
  header = h;
  fails = x;
})

-- a fault at a place comes before the data, or is of the content
pub place_fails : (n passed : ℕ) (seen : Option Format) (rest : List ℕ) (r : FormatFault) → n + passed ≡ 65536 →
    PlaceFault seen passed rest r → (data_at n seen rest ≡ Err r) ⊎ DataFails seen rest r
place_fails n passed seen rest r e (ends_early s b) = inl (rw (s, b) (no_header n None [] NoFormat refl))
place_fails n passed seen rest r e (ends_before_data f s b) = inl (rw (s, b) (no_header n (Some f) [] NoData refl))
place_fails n passed seen rest r e (header_cut some few) =
    inl (no_header n seen rest Truncated (header_short (is_some seen) rest some few))
place_fails n passed seen rest r e (too_many id size after h d all) =
    let none : n ≡ 0 = omega arith in
    inl (rw (none, h.whole) (last_too_many seen id size after h.id_is_four h.size_is_four d))
place_fails n passed seen rest r e (data_too_early size after h s) =
    inl (rw (s, h.whole) (early n size after h.size_is_four))
place_fails n passed seen rest r e (format_short size after h s more lt) =
    inl (rw (s, h.whole) (no_step n (n - 1) None _ ShortFormat (omega arith)
    (format_fault size after ShortFormat h.size_is_four (format_is_short (little_number 4 size) after lt))))
place_fails n passed seen rest r e (format_cut size after h s more le lt) =
    inl (rw (s, h.whole) (no_step n (n - 1) None _ Truncated (omega arith)
    (format_fault size after Truncated h.size_is_four (format_is_cut (little_number 4 size) after le lt))))
place_fails n passed seen rest r e (format_bad size after x h s more le long bad) =
    inl (rw (s, h.whole) (no_step n (n - 1) None _ x (omega arith)
    (format_fault size after x h.size_is_four (format_is_bad (little_number 4 size) after x le long bad))))
place_fails n passed seen rest r e (content_cut id size after h d f more lt) =
    inl (rw h.whole (no_step n (n - 1) seen _ Truncated (omega arith)
    (skip_fault seen id size after h.id_is_four h.size_is_four d f lt)))
place_fails n passed seen rest r e (data_partial f size after h s ne part) =
    data_fails n f size after h s (is_not_whole ne part)
place_fails n passed seen rest r e (data_cut f size after h s ne whole lt) =
    data_fails n f size after h s (is_cut ne whole lt)
place_fails n passed seen rest r e (open_long f size after h s is lt) = data_fails n f size after h s (is_long is lt)
place_fails n passed seen rest r e (open_partial f size after h s is le part) =
    data_fails n f size after h s (is_partial is le part)

-- from a place on
abbrev pub from_place : ℕ → Option Format → List ℕ → Result (Sound × List ℕ) FormatFault
from_place n seen rest = data_at n seen rest >>= λ d. content_at (2 * d.0.format.channels) d.0.size d.1
    >>= λ s. Ok (record { rate = d.0.format.rate; channels = d.0.format.channels; samples = s.0 }, s.1)

stops : (n : ℕ) (seen : Option Format) (rest : List ℕ) (r : FormatFault) → data_at n seen rest ≡ Err r →
    from_place n seen rest ≡ Err r
stops n seen rest r h = rw h refl

data_stops : (n : ℕ) (f : Format) (size after : List ℕ) (r : FormatFault) → length size ≡ 4 →
    content_at (2 * f.channels) (little_number 4 size) after ≡ Err r →
    from_place n (Some f) (codes "data" ++ (size ++ after)) ≡ Err r
data_stops n f size after r s h = rw (data_at_here n f size after s, h) refl

pub place_reads : (n passed : ℕ) (seen : Option Format) (rest : List ℕ) (r : FormatFault) → n + passed ≡ 65536 →
    PlaceFault seen passed rest r → from_place n seen rest ≡ Err r
place_reads n passed seen rest r e fault =
    elim (place_fails n passed seen rest r e fault) [
      | inl h ↦ stops n seen rest r h
      | inr d ↦ rw (d.known, d.header.whole) (data_stops n d.format d.size d.after r d.header.size_is_four
          (content_fails (2 * d.format.channels) (little_number 4 d.size) d.after r d.fails))
    ]

wav_from : (bytes body : List ℕ) → riff_at bytes ≡ Ok (tt, body) → wav_at bytes ≡ from_place 65536 None body
unfolding wav_at
wav_from bytes body h = rw h refl

riff_fails : (bytes : List ℕ) (r : FormatFault) → riff_of (take 12 bytes) ≡ Err r → wav_at bytes ≡ Err r
unfolding wav_at
riff_fails bytes r h = rw h refl

-- a fault at a place
pub record AtPlace (bytes : List ℕ) (r : FormatFault) : Type 0 where
  pub chunks : List Chunk
  pub seen : Option Format
  pub rest : List ℕ
  pub place : Place bytes chunks seen rest
  pub fault : PlaceFault seen (length chunks) rest r

-- a fault is of the first twelve bytes, or at a place
pub riff_or_place : (bytes : List ℕ) (r : FormatFault) → HasFault bytes r →
    (riff_of (take 12 bytes) ≡ Err r) ⊎ AtPlace bytes r
riff_or_place bytes r (riff_cut few) =
    inl (rw (lt-ltb (length (take 12 bytes)) 4 (omega (arith, length-take 12 bytes))) refl)
riff_or_place bytes r (not_riff long ne) =
    inl (rw (
      le-ltb (length (take 12 bytes)) 4 (omega (arith, length-take 12 bytes)),
      take-take 4 12 bytes (omega arith),
      not_equal (take 4 bytes) (codes "RIFF") ne,
    ) refl)
riff_or_place bytes r (wave_cut long is few) =
    inl (rw (
      le-ltb (length (take 12 bytes)) 4 (omega (arith, length-take 12 bytes)),
      take-take 4 12 bytes (omega arith),
      is,
      lt-ltb (length (take 12 bytes)) 12
          (omega (arith, length-take 12 bytes)),
    ) refl)
riff_or_place bytes r (not_wave is long ne) =
    let wave : take 4 (drop 8 (take 12 bytes)) ≡ take 4 (drop 8 bytes) =
    ap (take 4) (drop-take 8 4 bytes) ∙ take-take 4 4 (drop 8 bytes) (omega arith) in
    inl (rw (
      le-ltb (length (take 12 bytes)) 4 (omega (arith, length-take 12 bytes)),
      take-take 4 12 bytes (omega arith),
      is,
      le-ltb (length (take 12 bytes)) 12
          (omega (arith, length-take 12 bytes)),
      wave,
      not_equal (take 4 (drop 8 bytes)) (codes "WAVE") ne,
    ) refl)
riff_or_place bytes r (at_place cs seen rest x place fault) =
    inr (record { chunks = cs; seen = seen; rest = rest; place = place; fault = fault })

-- from the start of a file to a place
pub to_place : (bytes : List ℕ) (cs : List Chunk) (seen : Option Format) (rest : List ℕ)
    (p : Place bytes cs seen rest) → (riff_at bytes ≡ Ok (tt, p.body))
    × (data_at 65536 None p.body ≡ data_at (65536 - length cs) seen rest)
to_place bytes cs seen rest p = (
  ap riff_at p.start ∙ riff_reads p.riff_size p.body p.size_is_four,
  walk (65536 - length cs) 65536 cs seen p.body rest (omega (arith, p.few)) p.known p.parts,
)

-- a fault that stands is answered
pub fault_reads : (bytes : List ℕ) (r : FormatFault) → HasFault bytes r → wav_at bytes ≡ Err r
fault_reads bytes r fault =
    elim (riff_or_place bytes r fault) [
      | inl h ↦ riff_fails bytes r h
      | inr p ↦
          let n = 65536 - length p.chunks in
          let way = to_place bytes p.chunks p.seen p.rest p.place in
          wav_from bytes p.place.body way.0 ∙ rw way.1
          (place_reads n (length p.chunks) p.seen p.rest r (omega (arith, p.place.few)) p.fault)
    ]
