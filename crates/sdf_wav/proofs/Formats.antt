-- What the content of a format chunk is read as.
use Rattle.std.proofs.Common.{◌≡◌, inl, inr, ℕ, ◌*◌, ◌%◌, ◌≤◌, min, List, ◌++◌, length, take, drop, Ok, refl, ap, ◌∙◌}
use Rattle.std.proofs.Common.{arith, length-append, length-take}
use Rattle.std.proofs.lemmas.Slice.Eq.{bytes_eq-Decides}
use Rattle.std.proofs.lemmas.Bool.{le-ltb, eq-eqb, ne_eqb}
use Rattle.std.proofs.lemmas.List.{drop-take, take-take, take-append-le, drop_at}
use Rattle.byteorder.specs.Numbers.{little_from-take}
use Rattle.sdf_wav.proofs.Numbers.{number_front}
use Rattle.sdf_wav.specs.declared.format.Format.{Format}
use Rattle.sdf_wav.specs.declared.parts.Fields.{Fields}
use Rattle.sdf_wav.specs.Parts.{pcm_guid, fields_of, checked, format_of}
use Rattle.sdf_wav.specs.Steps.{looked_at, pcm_at, format_at}
use Rattle.sdf_wav.specs.Grammar.{IsContentOf}

pub fields_of-take : (m : ℕ) (content : List ℕ) → 16 ≤ m → fields_of (take m content) ≡ fields_of content
fields_of-take m content h =
    rw (
      number_front 2 2 m content (omega arith),
      number_front 4 4 m content (omega arith),
      number_front 12 2 m content (omega arith),
      number_front 14 2 m content (omega arith),
      little_from-take 0 2 m content (omega arith),
    ) refl

-- the tag of PCM
checked_plain : (t : Fields) (content : List ℕ) → t.tag ≡ 1 → t.bits ≡ 16 → 1 ≤ t.channels → t.channels ≤ 8 →
    1 ≤ t.rate → t.align ≡ 2 * t.channels → checked t content ≡ Ok (record { rate = t.rate; channels = t.channels })
checked_plain t content tag bits low high rate align =
    rw (
      tag,
      bits,
      ne_eqb t.channels 0 (λ e. omega arith),
      le-ltb 8 t.channels high,
      ne_eqb t.rate 0 (λ e. omega arith),
      eq-eqb t.align (2 * t.channels) align,
    ) refl

-- the extended tag
checked_extended : (t : Fields) (content : List ℕ) → t.tag ≡ 0xFFFE → 40 ≤ length content →
    take 16 (drop 24 content) ≡ pcm_guid → t.bits ≡ 16 → 1 ≤ t.channels → t.channels ≤ 8 → 1 ≤ t.rate →
    t.align ≡ 2 * t.channels
    → checked t content ≡ Ok (record { rate = t.rate; channels = t.channels })
checked_extended t content tag long guid bits low high rate align =
    rw (
      tag,
      le-ltb (length content) 40 long,
      bits,
      (bytes_eq-Decides (take 16 (drop 24 content)) pcm_guid).1 guid,
      ne_eqb t.channels 0 (λ e. omega arith),
      le-ltb 8 t.channels high,
      ne_eqb t.rate 0 (λ e. omega arith),
      eq-eqb t.align (2 * t.channels) align,
    ) refl

format_of_content : (content : List ℕ) (f : Format) (size : ℕ) → length content ≡ size → IsContentOf content f →
    format_of (take (min size 40) content) ≡ Ok f
unfolding format_of
format_of_content content f size e is =
    let m : 16 ≤ min size 40 = omega (arith, is.long) in
    ap (λ (t : Fields). checked t (take (min size 40) content)) (fields_of-take (min size 40) content m)
    ∙ elim is.tag [
      | inl plain ↦ checked_plain (fields_of content) (take (min size 40) content) plain is.bits
          (omega (arith, is.channels, is.one_channel)) (omega (arith, is.channels, is.few_channels))
          (omega (arith, is.rate, is.some_rate)) (omega (arith, is.align, is.channels))
      | inr ext ↦
          let k : min size 40 ≡ 40 = omega (arith, ext.1) in
          let guid : take 16 (drop 24 (take (min size 40) content)) ≡ pcm_guid =
          ap (λ (j : ℕ). take 16 (drop 24 (take j content))) k ∙ ap (take 16) (drop-take 24 16 content)
          ∙ take-take 16 16 (drop 24 content) (omega arith) ∙ ext.2 in
          checked_extended (fields_of content) (take (min size 40) content) ext.0
          (omega (arith, length-take (min size 40) content, ext.1)) guid is.bits
          (omega (arith, is.channels, is.one_channel)) (omega (arith, is.channels, is.few_channels))
          (omega (arith, is.rate, is.some_rate)) (omega (arith, is.align, is.channels))
    ]
    ∙ rw (is.channels, is.rate) refl

pub format_reads : (size : ℕ) (content after : List ℕ) (f : Format) → length content ≡ size → IsContentOf content f →
    format_at size (content ++ after) ≡ Ok (f, drop (size % 2) after)
unfolding format_at pcm_at looked_at
format_reads size content after f e is =
    let front : take (min size 40) (content ++ after) ≡ take (min size 40) content =
    take-append-le (min size 40) content after (omega arith) in
    rw (
      le-ltb size 16 (omega (arith, is.long)),
      le-ltb (length (content ++ after)) size
          (omega (arith, length-append content after)),
      front,
      drop_at content after size e,
      format_of_content content f size e is,
    ) refl
