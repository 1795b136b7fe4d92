-- The canonical file of a sound is a WAV file of it.
use Rattle.std.proofs.Common.{◌≡◌, inl, inr, ℕ, ◌+◌, ◌*◌, ◌%◌, ◌^◌, ◌<◌, ◌≤◌, ℤ, List, [], ◌∷◌, ◌++◌, length, Some}
use Rattle.std.proofs.Common.{None, refl, sym, ap, ◌∙◌, arith, append-nil}
use Rattle.std.specs.Prelude.{codes, FitsSigned}
use Rattle.std.specs.List.{AllByRecursion}
use Rattle.std.specs.Int.{w16, cast_signed, cast_unsigned}
use Rattle.byteorder.specs.Endian.{little_number, little_bytes}
use Rattle.byteorder.specs.Numbers.{little_number-reads_back}
use Rattle.std.proofs.lemmas.Bool.{cases_lt, lt-ltb, le-ltb}
use Rattle.std.proofs.lemmas.Int.{to_z-of_z}
use mir.Facts.{Fits-lt-pow}
use mir.ValLaws.{of_z_fits}
use Rattle.sdf_wav.proofs.Frames.{twice_whole}
use Rattle.sdf_wav.specs.declared.fault.FormatFault.{FormatFault}
use Rattle.sdf_wav.specs.declared.format.Format.{Format}
use Rattle.sdf_wav.specs.Sound.{Sound, pcm_samples, IsSound}
use Rattle.sdf_wav.specs.Canonical.{header, sample_bytes, canonical_wav, write_fault}
use Rattle.sdf_wav.specs.Grammar.{Chunk, IsContentOf, IsFormatChunk, Parts, IsWav}

number_back : (n x : ℕ) → x < 256 ^ n → little_number n (little_bytes n x) ≡ x
number_back n x h = ap (little_number n) (sym (append-nil (little_bytes n x))) ∙ little_number-reads_back n x [] h

-- ---- samples

sample_length : (samples : List ℤ) → length (sample_bytes samples) ≡ 2 * length samples
sample_length [] = refl
sample_length (z ∷ zs) = let e = sample_length zs in omega (arith, e)

sample_back : (z : ℤ) → FitsSigned w16 z → cast_signed w16 (little_number 2 (little_bytes 2 (cast_unsigned w16 z))) ≡ z
sample_back z h =
    let n : cast_unsigned w16 z < 65536 = Fits-lt-pow (of_z_fits w16 z h) in
    ap (cast_signed w16) (number_back 2 (cast_unsigned w16 z) n) ∙ to_z-of_z w16 z h

samples_back : (samples : List ℤ) → AllByRecursion (FitsSigned w16) samples →
    pcm_samples (sample_bytes samples) ≡ samples
samples_back [] h = refl
samples_back (z ∷ zs) h = ap (λ (y : ℤ). y ∷ pcm_samples (sample_bytes zs)) (sample_back z h.0)
    ∙ ap (λ (l : List ℤ). z ∷ l) (samples_back zs h.1)

-- ---- the format

unfoldable content : ℕ → ℕ → List ℕ
content rate channels = little_bytes 2 1 ++ (little_bytes 2 channels
    ++ (little_bytes 4 rate ++ (little_bytes 4 (rate * (2 * channels))
    ++ (little_bytes 2 (2 * channels) ++ little_bytes 2 16))))

content_is : (rate channels : ℕ) → 1 ≤ rate → rate < 2 ^ 32 → 1 ≤ channels → channels ≤ 8 →
    IsContentOf (content rate channels) (record { rate = rate; channels = channels })
unfolding content
content_is rate channels r fits low high = record {
  long = omega arith;
  tag = inl refl;
  bits = refl;
  channels = little_number-reads_back 2 channels (little_bytes 4 rate) (omega arith);
  one_channel = low;
  few_channels = high;
  rate = little_number-reads_back 4 rate (little_bytes 4 (rate * (2 * channels))) fits;
  some_rate = r;
  align = little_number-reads_back 2 (2 * channels) (little_bytes 2 16) (omega arith);
}

unfoldable format_chunk : ℕ → ℕ → Chunk
format_chunk rate channels = record { id = codes "fmt "; size = little_bytes 4 16; content = content rate channels }

is_format : (rate channels : ℕ) → 1 ≤ rate → rate < 2 ^ 32 → 1 ≤ channels → channels ≤ 8 →
    IsFormatChunk (format_chunk rate channels) (record { rate = rate; channels = channels })
unfolding format_chunk content
is_format rate channels r fits low high = record {
  chunk = record { id_is_four = refl; size_is_four = refl; content_is_size = refl };
  format = refl;
  content_of = content_is rate channels r fits low high;
}

unfoldable body : ℕ → ℕ → ℕ → List ℕ → List ℕ
body rate channels size data_bytes = codes "fmt "
    ++ (little_bytes 4 16 ++ (content rate channels ++ (codes "data" ++ (little_bytes 4 size ++ data_bytes))))

starts : (rate channels size : ℕ) (data_bytes : List ℕ) →
    header rate channels size ++ data_bytes ≡ codes "RIFF"
    ++ (little_bytes 4 (36 + size) ++ (codes "WAVE" ++ body rate channels size data_bytes))
unfolding header body content
starts rate channels size data_bytes = refl

parts_of : (rate channels size : ℕ) (data_bytes : List ℕ) →
    Parts (body rate channels size data_bytes) (format_chunk rate channels ∷ [])
    (codes "data" ++ (little_bytes 4 size ++ data_bytes))
unfolding body format_chunk content
parts_of rate channels size data_bytes = (codes "data" ++ (little_bytes 4 size ++ data_bytes), refl, refl)

some_none : {r : FormatFault} → Some r ≡ None → ⊥
some_none e = cc

-- the size of what is written fits
small : (s : Sound) → write_fault s ≡ None → 2 * length s.samples ≤ 4294967259
small s e =
    let size = 2 * length s.samples in
    elim (cases_lt 4294967295 (s.rate * (2 * s.channels))) [
      | inl fast ↦ absurd (some_none (rw (lt-ltb 4294967295 (s.rate * (2 * s.channels)) fast) at e))
      | inr slow ↦ elim (cases_lt 4294967259 size) [
        | inl long ↦ absurd (some_none (rw (
          le-ltb 4294967295 (s.rate * (2 * s.channels)) slow,
          lt-ltb 4294967259 size long,
        ) at e))
        | inr short ↦ short
      ]
    ]

pub canonical_is_wav : (s : Sound) → IsSound s → write_fault s ≡ None → IsWav (canonical_wav s) s []
canonical_is_wav s is e =
    let n = 2 * length s.samples in
    let data_bytes = sample_bytes s.samples in
    let f : Format = record { rate = s.rate; channels = s.channels } in
    let size : n ≤ 4294967259 = small s e in
    let back : little_number 4 (little_bytes 4 n) ≡ n = number_back 4 n (omega arith) in
    record {
      chunks = format_chunk s.rate s.channels ∷ [];
      format = f;
      size = little_bytes 4 n;
      content = data_bytes;
      place = record {
        riff_size = little_bytes 4 (36 + n);
        body = body s.rate s.channels n (data_bytes ++ []);
        start = ap (λ (l : List ℕ). header s.rate s.channels n ++ l) (sym (append-nil data_bytes))
            ∙ starts s.rate s.channels n (data_bytes ++ []);
        size_is_four = refl;
        parts = parts_of s.rate s.channels n (data_bytes ++ []);
        known = (
          [],
          format_chunk s.rate s.channels,
          [],
          refl,
          tt,
          is_format s.rate s.channels is.some_rate is.rate_fits is.one_channel is.few_channels,
          tt,
        );
        few = omega arith;
      };
      size_is_four = refl;
      content_is = inl (λ x. absurd (omega (arith, back)), sample_length s.samples ∙ sym back);
      rate = refl;
      channels = refl;
      samples = sym (samples_back s.samples is.samples_fit);
      whole = ap (λ m. m % (2 * s.channels)) (sample_length s.samples)
          ∙ twice_whole (length s.samples) s.channels is.whole;
    }
