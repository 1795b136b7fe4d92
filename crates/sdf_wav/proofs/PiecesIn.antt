-- Pieces of a content, and what they are of the whole.
use Rattle.std.proofs.Common.{◌≡◌, ◌≢◌, ◌⊎◌, inl, inr, ℕ, ◌+◌, ◌-◌, ◌*◌, ◌/◌, ◌%◌, ◌<◌, ◌≤◌, min, ℤ, List, [], ◌++◌}
use Rattle.std.proofs.Common.{length, take, drop, Option, Some, Result, Ok, Err, refl, sym, ap, subst, ◌∙◌, arith}
use Rattle.std.proofs.Common.{append_assoc, length-append, length-take, take-append-drop}
use Rattle.std.specs.Prelude.{codes, IfOk}
use Rattle.std.proofs.lemmas.Bool.{lt-ltb, le-ltb, eq-eqb, ne_eqb, cases_lt}
use Rattle.std.proofs.lemmas.Bool.Decides.{eqb_tells}
use Rattle.std.proofs.lemmas.List.{drop_all}
use Rattle.byteorder.specs.Endian.{little_number}
use Rattle.sdf_wav.specs.declared.fault.FormatFault.{FormatFault}
use Rattle.sdf_wav.specs.declared.fault.FormatFault.TheVariants.{Truncated, PartialFrame, TooLong}
use Rattle.sdf_wav.specs.Sound.{Sound, pcm_samples}
use Rattle.sdf_wav.specs.Grammar.{Content, IsWav}
use Rattle.sdf_wav.specs.Fault.{IsHeader, PlaceFault, HasFault, data_cut, open_long, open_partial, at_place}
use Rattle.sdf_wav.specs.declared.fault.WavFault.{WavFault}
use Rattle.sdf_wav.specs.declared.fault.WavFault.TheVariants as faults
use Rattle.sdf_wav.specs.declared.fault.ReadFault.{ReadFault}
use Rattle.sdf_wav.specs.Steps.{Reads}
use Rattle.sdf_wav.specs.Fault.{Answers}
use Rattle.sdf_wav.proofs.Known.{Known-then, Known-weaker, LosesFront-then, Reads-same}
use Rattle.sdf_wav.specs.PiecesIn.{IsReading, IsPiece, AnswersBy, AnswersOpening, ContentInValue, format_read, Opens}
use Rattle.sdf_wav.specs.PiecesIn.{IsWithin}
use Rattle.sdf_wav.specs.PiecesIn.{IsReadTo, IsEnded, sound_read, sized_piece, open_piece, next_at}
use Rattle.sdf_wav.proofs.Samples.{pcm_count, pcm_samples-append}
use Rattle.sdf_wav.proofs.Frames.{whole_is_even, past_whole, less_whole, asked_whole, smaller_whole, twice_whole}

-- ---- the cases of a piece

record Gives (r : ContentInValue) (frames : ℕ) (bytes : List ℕ) : Type 0 where
  n : ℕ
  there : n ≤ length bytes
  whole : n % (2 * r.channels) ≡ 0
  within : IsWithin (2 * r.channels) r.size (r.gone + n)
  enough : (n ≡ 2 * (frames * r.channels)) ⊎ (((r.size ≢ 0xFFFFFFFF) × (r.gone + n ≡ r.size))
      ⊎ ((r.size ≡ 0xFFFFFFFF) × (n ≡ length bytes)))
  gives : next_at r frames bytes ≡ Ok (pcm_samples (take n bytes), drop n bytes)

data Falls (r : ContentInValue) (frames : ℕ) (bytes : List ℕ) : Type 0 where
  falls_cut : r.size ≢ 0xFFFFFFFF → r.size % (2 * r.channels) ≡ 0 → r.gone + length bytes < r.size →
      next_at r frames bytes ≡ Err Truncated → Falls r frames bytes
  falls_long : r.size ≡ 0xFFFFFFFF → 4294967294 < r.gone + length bytes → next_at r frames bytes ≡ Err TooLong →
      Falls r frames bytes
  falls_partial : r.size ≡ 0xFFFFFFFF → r.gone + length bytes ≤ 4294967294 → length bytes % (2 * r.channels) ≢ 0 →
      next_at r frames bytes ≡ Err PartialFrame → Falls r frames bytes

pub next_sized : (r : ContentInValue) (frames : ℕ) (bytes : List ℕ) → r.size ≢ 0xFFFFFFFF →
    next_at r frames bytes ≡ sized_piece (min (2 * (frames * r.channels)) (r.size - r.gone)) bytes
unfolding next_at
next_sized r frames bytes ne = rw (ne_eqb r.size 4294967295 ne) refl

pub next_open : (r : ContentInValue) (frames : ℕ) (bytes : List ℕ) → r.size ≡ 0xFFFFFFFF →
    next_at r frames bytes ≡ open_piece (2 * r.channels) r.gone (min (2 * (frames * r.channels)) (length bytes)) bytes
unfolding next_at
next_open r frames bytes e = rw (eq-eqb r.size 4294967295 e) refl

piece_cases : (r : ContentInValue) (frames : ℕ) (bytes : List ℕ) → r.gone % (2 * r.channels) ≡ 0 →
    IsWithin (2 * r.channels) r.size r.gone → Gives r frames bytes ⊎ Falls r frames bytes
piece_cases r frames bytes begun (inl (known, sized, le)) =
    let asked = 2 * (frames * r.channels) in
    let n = min asked (r.size - r.gone) in
    elim (cases_lt (length bytes) n) [
      | inl few ↦ inr (falls_cut known sized (omega arith)
          (next_sized r frames bytes known ∙ rw (lt-ltb (length bytes) n few) refl))
      | inr there ↦ inl (record {
        n = n;
        there = there;
        whole = smaller_whole asked (r.size - r.gone) (2 * r.channels) (asked_whole frames r.channels)
            (less_whole r.size r.gone (2 * r.channels) sized begun le);
        within = inl (known, sized, omega arith);
        enough = elim (cases_lt asked (r.size - r.gone)) [
          | inl lt ↦ inl (omega arith)
          | inr more ↦ inr (inl (known, omega arith))
        ];
        gives = next_sized r frames bytes known ∙ rw (le-ltb (length bytes) n there) refl;
      })
    ]
piece_cases r frames bytes begun (inr (unknown, fits)) =
    let asked = 2 * (frames * r.channels) in
    let align = 2 * r.channels in
    let n = min asked (length bytes) in
    elim (cases_lt 4294967294 (r.gone + n)) [
      | inl far ↦ inr (falls_long unknown (omega arith)
          (next_open r frames bytes unknown ∙ rw (lt-ltb 4294967294 (r.gone + n) far) refl))
      | inr near ↦ elim (eqb_tells (n % align) 0) [
        | inl whole ↦ inl (record {
          n = n;
          there = omega arith;
          whole = whole.1;
          within = inr (unknown, near);
          enough = elim (cases_lt asked (length bytes)) [
            | inl lt ↦ inl (omega arith)
            | inr more ↦ inr (inr (unknown, omega arith))
          ];
          gives = next_open r frames bytes unknown ∙ rw
              (le-ltb 4294967294 (r.gone + n) near, eq-eqb (n % align) 0 whole.1) refl;
        })
        | inr part ↦ elim (cases_lt asked (length bytes)) [
          | inl lt ↦
              let e : n ≡ asked = omega arith in
              absurd (part.1 (ap (λ j. j % align) e ∙ asked_whole frames r.channels))
          | inr more ↦
              let e : n ≡ length bytes = omega arith in
              inr (falls_partial unknown (omega arith) (λ z. part.1 (ap (λ j. j % align) e ∙ z))
              (next_open r frames bytes unknown ∙ rw (
                le-ltb 4294967294 (r.gone + n) near,
                ne_eqb (n % align) 0 part.1,
              ) refl))
        ]
      ]
    ]

abbrev answer : List ℤ → List ℕ → Result (List ℤ × List ℕ) FormatFault
answer samples rest = Ok (samples, rest)

abbrev fault : FormatFault → Result (List ℤ × List ℕ) FormatFault
fault f = Err f

-- what was given is the piece
record IsGiven (r : ContentInValue) (frames : ℕ) (bytes : List ℕ) (samples : List ℤ) (rest : List ℕ) : Type 0 where
  gives : Gives r frames bytes
  samples_are : samples ≡ pcm_samples (take gives.n bytes)
  rest_is : rest ≡ drop gives.n bytes

given : (r : ContentInValue) (frames : ℕ) (bytes rest : List ℕ) (samples : List ℤ) → r.gone % (2 * r.channels) ≡ 0 →
    IsWithin (2 * r.channels) r.size r.gone
    → next_at r frames bytes ≡ Ok (samples, rest) → IsGiven r frames bytes samples rest
given r frames bytes rest samples begun within e =
    elim (piece_cases r frames bytes begun within) [
      | inl p ↦
          let h : answer samples rest ≡ answer (pcm_samples (take p.n bytes)) (drop p.n bytes) = sym e ∙ p.gives in
          let both : ◌≡◌ {A = List ℤ × List ℕ} (samples, rest) (pcm_samples (take p.n bytes), drop p.n bytes) = cc in
          record {
            gives = p;
            samples_are = ap (λ (x : List ℤ × List ℕ). x.0) both;
            rest_is = ap (λ (x : List ℤ × List ℕ). x.1) both;
          }
      | inr (falls_cut known sized lt f) ↦ let h : fault Truncated ≡ answer samples rest = sym f ∙ e in absurd cc
      | inr (falls_long unknown lt f) ↦ let h : fault TooLong ≡ answer samples rest = sym f ∙ e in absurd cc
      | inr (falls_partial unknown le part f) ↦ let h : fault PartialFrame ≡ answer samples rest = sym f ∙ e in
          absurd cc
    ]

-- so many bytes make half as many samples
given_count : (r : ContentInValue) (frames : ℕ) (bytes rest : List ℕ) (samples : List ℤ)
    (p : IsGiven r frames bytes samples rest) → 2 * length samples ≡ p.gives.n
given_count r frames bytes rest samples p =
    let n = p.gives.n in
    let even = whole_is_even n r.channels p.gives.whole in
    let len : length samples ≡ length (take n bytes) / 2 = ap length p.samples_are ∙ pcm_count (take n bytes) in
    omega (arith, length-take n bytes, p.gives.there)

-- ---- pieces that were read

pub reads_on : (input : List ℕ) (r : ContentInValue) (before : List ℤ) (bytes : List ℕ) (frames : ℕ) (samples : List ℤ)
    (rest : List ℕ) → IsReadTo input r before bytes
    → next_at r frames bytes ≡ Ok (samples, rest) →
    IsReadTo input (record r { gone = r.gone + 2 * length samples }) (before ++ samples) rest
reads_on input r before bytes frames samples rest q e =
    let begun : r.gone % (2 * r.channels) ≡ 0 = ap (λ n. n % (2 * r.channels)) (sym q.count) ∙ q.whole in
    let p = given r frames bytes rest samples begun q.within e in
    let n = p.gives.n in
    let count : 2 * length samples ≡ n = given_count r frames bytes rest samples p in
    let piece : length (take n bytes) ≡ n = omega (arith, length-take n bytes, p.gives.there) in
    let all : length (q.gone ++ take n bytes) ≡ r.gone + n =
    omega (arith, length-append q.gone (take n bytes), q.count) in
    let split : q.gone ++ bytes ≡ (q.gone ++ take n bytes) ++ rest =
    ap (λ (l : List ℕ). q.gone ++ l) (sym (take-append-drop n bytes)
    ∙ ap (λ (l : List ℕ). take n bytes ++ l) (sym p.rest_is)) ∙ sym (append_assoc q.gone (take n bytes) rest) in
    record {
      gone = q.gone ++ take n bytes;
      opens = subst (Opens input (format_read r) r.size) split q.opens;
      count = all ∙ omega (arith, count);
      samples_are = ap (λ (l : List ℤ). l ++ samples) q.samples_are
          ∙ ap (λ (l : List ℤ). pcm_samples q.gone ++ l) p.samples_are
          ∙ sym (pcm_samples-append q.gone (take n bytes) (whole_is_even (length q.gone) r.channels q.whole));
      whole = ap (λ j. j % (2 * r.channels)) all ∙ past_whole r.gone n (2 * r.channels) begun ∙ p.gives.whole;
      within = subst (λ j. IsWithin (2 * r.channels) r.size (r.gone + j)) (sym count) p.gives.within;
    }

-- fewer frames than were asked for come at the end alone
pub few_at_end : (input : List ℕ) (r : ContentInValue) (before : List ℤ) (bytes : List ℕ) (frames : ℕ)
    (samples : List ℤ)
    (rest : List ℕ) → IsReadTo input r before bytes
    → next_at r frames bytes ≡ Ok (samples, rest) → length samples < frames * r.channels →
    IsEnded (record r { gone = r.gone + 2 * length samples }) rest
few_at_end input r before bytes frames samples rest q e few =
    let begun : r.gone % (2 * r.channels) ≡ 0 = ap (λ n. n % (2 * r.channels)) (sym q.count) ∙ q.whole in
    let p = given r frames bytes rest samples begun q.within e in
    let count : 2 * length samples ≡ p.gives.n = given_count r frames bytes rest samples p in
    elim p.gives.enough [
      | inl all ↦ absurd (omega (arith, all, count))
      | inr (inl (known, end)) ↦ inl (known, omega (arith, end, count))
      | inr (inr (unknown, end)) ↦ inr (unknown, p.rest_is ∙ drop_all p.gives.n bytes (omega (arith, end)))
    ]

content_ended : (size : List ℕ) (r : ContentInValue) (gone rest : List ℕ) → little_number 4 size ≡ r.size →
    length gone ≡ r.gone → IsWithin (2 * r.channels) r.size r.gone → IsEnded r rest →
    Content (little_number 4 size) gone rest
content_ended size r gone rest is count within (inl (known, end)) = inl (λ x. known (sym is ∙ x), count ∙ end ∙ sym is)
content_ended size r gone rest is count (inl (known, sized, le)) (inr (unknown, none)) = absurd (known unknown)
content_ended size r gone rest is count (inr (unsized, fits)) (inr (unknown, none)) =
    inr (is ∙ unknown, omega (arith, count), none)

-- at the content's end the input is a file of what was read
pub ended_is_wav : (input : List ℕ) (r : ContentInValue) (samples : List ℤ) (rest : List ℕ) →
    IsReadTo input r samples rest →
    IsEnded r rest → IsWav input (sound_read r samples) rest
ended_is_wav input r samples rest q end = record {
  chunks = q.opens.chunks;
  format = format_read r;
  size = q.opens.size_bytes;
  content = q.gone;
  place = q.opens.place;
  size_is_four = q.opens.size_is_four;
  content_is = content_ended q.opens.size_bytes r q.gone rest q.opens.size_is q.count q.within end;
  rate = refl;
  channels = refl;
  samples = q.samples_are;
  whole = q.whole;
}

same_fault : (g f : FormatFault) → fault g ≡ fault f → g ≡ f
same_fault g f e = cc

-- a fault within a piece is the input's
pub falls_with : (input : List ℕ) (r : ContentInValue) (before : List ℤ) (bytes : List ℕ) (frames : ℕ)
    (f : FormatFault) →
    IsReadTo input r before bytes → next_at r frames bytes ≡ Err f → HasFault input f
falls_with input r before bytes frames f q e =
    let begun : r.gone % (2 * r.channels) ≡ 0 = ap (λ n. n % (2 * r.channels)) (sym q.count) ∙ q.whole in
    let size = q.opens.size_bytes in
    let header : IsHeader (codes "data" ++ (size ++ (q.gone ++ bytes))) (codes "data") size (q.gone ++ bytes) =
    record { id_is_four = refl; size_is_four = q.opens.size_is_four; whole = refl } in
    let len : length (q.gone ++ bytes) ≡ r.gone + length bytes = omega (arith, length-append q.gone bytes, q.count) in
    let build : (g : FormatFault) → fault g ≡ fault f →
    PlaceFault (Some (format_read r)) (length q.opens.chunks) (codes "data" ++ (size ++ (q.gone ++ bytes))) g →
    HasFault input f =
    λ g same place. at_place q.opens.chunks (Some (format_read r)) (codes "data" ++ (size ++ (q.gone ++ bytes))) f
    q.opens.place (subst (PlaceFault (Some (format_read r)) (length q.opens.chunks)
    (codes "data" ++ (size ++ (q.gone ++ bytes)))) (same_fault g f same) place) in
    elim (piece_cases r frames bytes begun q.within) [
      | inl p ↦ let h : answer (pcm_samples (take p.n bytes)) (drop p.n bytes) ≡ fault f = sym p.gives ∙ e in absurd cc
      | inr (falls_cut known sized lt g) ↦
          build Truncated (sym g ∙ e) (data_cut (format_read r) size (q.gone ++ bytes) header refl
          (λ x. known (sym q.opens.size_is ∙ x)) (ap (λ n. n % (2 * r.channels)) q.opens.size_is ∙ sized)
          (omega (arith, len, q.opens.size_is)))
      | inr (falls_long unknown lt g) ↦
          build TooLong (sym g ∙ e) (open_long (format_read r) size (q.gone ++ bytes) header refl
          (q.opens.size_is ∙ unknown) (omega (arith, len)))
      | inr (falls_partial unknown le part g) ↦
          build PartialFrame (sym g ∙ e) (open_partial (format_read r) size (q.gone ++ bytes) header refl
          (q.opens.size_is ∙ unknown) (omega (arith, len))
          (λ z. part (sym (past_whole r.gone (length bytes) (2 * r.channels) begun)
          ∙ ap (λ n. n % (2 * r.channels)) (sym len) ∙ z)))
    ]

-- ---- what is read of the next frames

pub sized_asked : (all k size gone : ℕ) → k ≡ min (min all 18446744073709551615) 2147483648 → size ≤ 0xFFFFFFFF →
    min (2 * k) (size - gone) ≡ min (2 * all) (size - gone)
sized_asked all k size gone e fits = omega arith

pub next_by_sized : {X : Type 0} (view : X → List ℤ) (a b : Option (List ℕ)) (r : ContentInValue) (frames k n : ℕ)
    (x : Result X ReadFault) → r.size ≢ 0xFFFFFFFF → r.size ≤ 0xFFFFFFFF
    → k ≡ min (min (frames * r.channels) 18446744073709551615) 2147483648 → n ≡ min (2 * k) (r.size - r.gone) →
    Reads view a b (sized_piece n) x → Reads view a b (next_at r frames) x
next_by_sized view a b r frames k n x known fits e m h =
    let count : n ≡ min (2 * (frames * r.channels)) (r.size - r.gone) =
    m ∙ sized_asked (frames * r.channels) k r.size r.gone e fits in
    Reads-same view a b (sized_piece n) (next_at r frames) x
    (λ bytes. ap (λ j. sized_piece j bytes) count ∙ sym (next_sized r frames bytes known)) h

open_asked : (align gone all k : ℕ) (bytes : List ℕ) → k ≡ min (min all 18446744073709551615) 2147483648
    → open_piece align gone (min (2 * k) (length bytes)) bytes ≡
    open_piece align gone (min (2 * all) (length bytes)) bytes
open_asked align gone all k bytes e =
    elim (cases_lt 4294967296 (2 * all)) [
      | inr few ↦
          let same : k ≡ all = omega arith in
          ap (λ j. open_piece align gone (min (2 * j) (length bytes)) bytes) same
      | inl many ↦ elim (cases_lt 4294967296 (length bytes)) [
        | inl far ↦ rw (
          lt-ltb 4294967294 (gone + min (2 * k) (length bytes)) (omega arith),
          lt-ltb 4294967294 (gone + min (2 * all) (length bytes)) (omega arith),
        ) refl
        | inr near ↦
            let same : min (2 * k) (length bytes) ≡ min (2 * all) (length bytes) = omega arith in
            ap (λ j. open_piece align gone j bytes) same
      ]
    ]

pub next_by_open : {X : Type 0} (view : X → List ℤ) (a b : Option (List ℕ)) (r : ContentInValue) (frames k : ℕ)
    (x : Result X ReadFault) → r.size ≡ 0xFFFFFFFF
    → k ≡ min (min (frames * r.channels) 18446744073709551615) 2147483648 →
    Reads view a b (λ bytes. open_piece (2 * r.channels) r.gone (min (2 * k) (length bytes)) bytes) x →
    Reads view a b (next_at r frames) x
next_by_open view a b r frames k x unknown e h =
    Reads-same view a b (λ bytes. open_piece (2 * r.channels) r.gone (min (2 * k) (length bytes)) bytes)
    (next_at r frames) x
    (λ bytes. open_asked (2 * r.channels) r.gone (frames * r.channels) k bytes e
    ∙ sym (next_open r frames bytes unknown)) h

-- a piece further on
pub next_is_reading : (r old : ContentInValue) (n samples frames : ℕ) → r ≡ old → n ≡ samples → IsReading r →
    IsPiece old frames samples → IsWithin (2 * old.channels) old.size (old.gone + 2 * samples)
    → IsReading (record r { gone = r.gone + 2 * n })
next_is_reading r old n samples frames same count is piece within =
    let whole : samples % r.channels ≡ 0 = (subst (λ (x : ContentInValue). IsPiece x frames samples) (sym same)
    piece).whole in
    let all : samples ≡ n = sym count in
    record {
      some_rate = is.some_rate;
      one_channel = is.one_channel;
      few_channels = is.few_channels;
      size_fits = is.size_fits;
      whole = past_whole r.gone (2 * n) (2 * r.channels) is.whole
          ∙ twice_whole n r.channels (subst (λ j. j % r.channels ≡ 0) all whole);
      within = subst (λ j. IsWithin (2 * r.channels) r.size (r.gone + 2 * j)) all
          (subst (λ (x : ContentInValue). IsWithin (2 * x.channels) x.size (x.gone + 2 * samples)) (sym same) within);
      fault = is.fault;
    }

-- ---- a whole content in one piece

few_samples : (r : ContentInValue) (samples : ℕ) → IsReading r →
    IsWithin (2 * r.channels) r.size (r.gone + 2 * samples) →
    samples < 18446744073709551615 * r.channels
few_samples r samples is (inl (known, sized, le)) = omega (arith, is.size_fits, is.one_channel)
few_samples r samples is (inr (unknown, fits)) = omega (arith, is.one_channel)

whole_is_wav : (input : List ℕ) (r : ContentInValue) (bytes rest : List ℕ) (s : Sound) → IsReading r →
    IsReadTo input r [] bytes → next_at r 18446744073709551615 bytes ≡ Ok (s.samples, rest)
    → s.rate ≡ r.rate → s.channels ≡ r.channels → IsWav input s rest
whole_is_wav input r bytes rest s is q e rate channels =
    let on = reads_on input r [] bytes 18446744073709551615 s.samples rest q e in
    let end = few_at_end input r [] bytes 18446744073709551615 s.samples rest q e
    (few_samples r (length s.samples) is on.within) in
    let made : sound_read r s.samples ≡ s = rw (← rate, ← channels) refl in
    subst (λ (t : Sound). IsWav input t rest) made
    (ended_is_wav input (record r { gone = r.gone + 2 * length s.samples }) s.samples rest on end)

pub whole_answers : (a b c : Option (List ℕ)) (r : ContentInValue) (x : Result Sound WavFault) → IsReading r →
    AnswersOpening a b (Ok r) → AnswersBy (λ s. s.samples) b c (next_at r 18446744073709551615) x
    → IfOk x (λ s. (s.rate ≡ r.rate) × (s.channels ≡ r.channels)) → Answers a c x
whole_answers a b c r (Ok s) is p q same = Known-then p q (λ x y z p q. whole_is_wav x r y z s is p.0 q.0 same.0 same.1)
whole_answers a b c r (Err (faults.Format f)) is p q same =
    Known-then p q (λ x y z p q. (falls_with x r [] y 18446744073709551615 f p.0 q.0, LosesFront-then x y z p.1 q.1))
whole_answers a b c r (Err faults.OutOfMemory) is p q same = Known-then p q (λ x y z p q. LosesFront-then x y z p.1 q)
whole_answers a b c r (Err faults.Read) is p q same = Known-then p q (λ x y z p q. LosesFront-then x y z p.1 q)
whole_answers a b c r (Err faults.Write) is p q same = absurd q

-- a file that did not open
pub unopened_answers : (a b : Option (List ℕ)) (e : WavFault) → AnswersOpening a b (Err e) → Answers a b (Err e)
unopened_answers a b (faults.Format f) p = Known-weaker p (λ x y p. (p.0.has, p.1))
unopened_answers a b faults.OutOfMemory p = p
unopened_answers a b faults.Read p = p
unopened_answers a b faults.Write p = absurd p
