-- What the numbers of a sound give is the canonical file of a sound, whatever their samples.
use Rattle.std.proofs.Common.{◌≡◌, ℕ, ◌/◌, ◌%◌, ◌^◌, ◌<◌, ◌≤◌, ℤ, List, [], ◌∷◌, ◌++◌, length, None, refl, ap, ◌∙◌}
use Rattle.std.proofs.Common.{arith}
use Rattle.std.specs.Prelude.{FitsSigned}
use Rattle.std.specs.List.{AllByRecursion}
use Rattle.std.specs.Int.{w16, byte_at, cast_signed, cast_unsigned}
use Rattle.byteorder.specs.Endian.{little_bytes}
use Rattle.std.proofs.lemmas.Int.{of_z-to_z}
use mir.ValLaws.{to_z-Fits}
use Rattle.sdf_wav.specs.Sound.{Sound}
use Rattle.sdf_wav.specs.Canonical.{sample_bytes, canonical_wav, write_fault, IsCanonical}

-- two bytes hold 16 bits
low_bytes : (x : ℕ) → little_bytes 2 (x % 65536) ≡ little_bytes 2 x
low_bytes x =
    let y = x % 65536 in
    let first : y % 256 ≡ x % 256 = omega arith in
    let second : y / 256 ^ 1 % 256 ≡ x / 256 ^ 1 % 256 = omega arith in
    ap (λ (n : ℕ). n ∷ byte_at 1 y ∷ []) first ∙ ap (λ (n : ℕ). byte_at 0 x ∷ n ∷ []) second

-- the samples of 16 bits that have the same bytes
abbrev narrowed : List ℤ → List ℤ
narrowed [] = []
narrowed (z ∷ zs) = cast_signed w16 (cast_unsigned w16 z % 65536) ∷ narrowed zs

narrowed_length : (zs : List ℤ) → length (narrowed zs) ≡ length zs
narrowed_length [] = refl
narrowed_length (z ∷ zs) = let e = narrowed_length zs in omega (arith, e)

narrowed_fit : (zs : List ℤ) → AllByRecursion (FitsSigned w16) (narrowed zs)
narrowed_fit [] = tt
narrowed_fit (z ∷ zs) = (to_z-Fits w16 (cast_unsigned w16 z % 65536) (record { fits = omega arith }), narrowed_fit zs)

narrowed_bytes : (zs : List ℤ) → sample_bytes (narrowed zs) ≡ sample_bytes zs
narrowed_bytes [] = refl
narrowed_bytes (z ∷ zs) =
    let n = cast_unsigned w16 z % 65536 in
    let same : little_bytes 2 (cast_unsigned w16 (cast_signed w16 n)) ≡ little_bytes 2 (cast_unsigned w16 z) =
    ap (little_bytes 2) (of_z-to_z w16 n (omega arith)) ∙ low_bytes (cast_unsigned w16 z) in
    ap (λ (l : List ℕ). l ++ sample_bytes (narrowed zs)) same
    ∙ ap (λ (l : List ℕ). little_bytes 2 (cast_unsigned w16 z) ++ l) (narrowed_bytes zs)

pub is_canonical : (s : Sound) → 1 ≤ s.rate → s.rate < 2 ^ 32 → 1 ≤ s.channels → s.channels ≤ 8 →
    length s.samples % s.channels ≡ 0
    → write_fault s ≡ None → IsCanonical (canonical_wav s)
is_canonical s some fits low high whole e = record {
  sound = record { rate = s.rate; channels = s.channels; samples = narrowed s.samples };
  is_sound = record {
    some_rate = some;
    rate_fits = fits;
    one_channel = low;
    few_channels = high;
    samples_fit = narrowed_fit s.samples;
    whole = rw (narrowed_length s.samples) whole;
  };
  fits = rw (narrowed_length s.samples) e;
  whole = rw (narrowed_length s.samples, narrowed_bytes s.samples) refl;
}
