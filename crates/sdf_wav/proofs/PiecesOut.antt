-- Where a writing in pieces starts, and its pieces joined.
use Rattle.std.proofs.Common.{◌≡◌, ℕ, ◌*◌, ◌≤◌, ℤ, List, ◌++◌, length, Option, None, Result, Ok, Err, refl, sym, ap}
use Rattle.std.proofs.Common.{subst, ◌∙◌, arith}
use Rattle.std.specs.Int.{w16, cast_unsigned}
use Rattle.byteorder.specs.Endian.{little_bytes}
use Rattle.std.proofs.lemmas.Bool.{le-ltb, ne_eqb}
use Rattle.std.proofs.lemmas.Grind.{flat_map-append}
use Rattle.std.specs.Io.KnownBytes.{Appends}
use Rattle.std.proofs.KnownBytes.{Appends-trans}
use Rattle.sdf_wav.specs.declared.fault.WavFault.{WavFault}
use Rattle.sdf_wav.specs.declared.fault.WavFault.TheVariants as faults
use Rattle.sdf_wav.specs.Sound.{Sound}
use Rattle.sdf_wav.specs.Canonical.{header, sample_bytes, canonical_wav, size_fault, write_fault, Writes}
use Rattle.sdf_wav.specs.PiecesOut.{start_fault, file_header, Puts}
use Rattle.sdf_wav.proofs.Written.{AppendsFront-second}

pub no_start_fault : (rate channels frames : ℕ) → 1 ≤ channels → channels ≤ 8 → 1 ≤ rate →
    rate * (2 * channels) ≤ 4294967295 → frames * channels ≤ 2147483629
    → start_fault rate channels frames ≡ None
no_start_fault rate channels frames low high some fits few =
    rw (
      ne_eqb channels 0 (λ e. omega arith),
      le-ltb 8 channels high,
      ne_eqb rate 0 (λ e. omega arith),
      le-ltb 4294967295 (rate * (2 * channels)) fits,
      le-ltb 4294967259 (2 * (frames * channels)) (omega arith),
    ) refl

-- where the first tests pass, the size alone decides
pub start_by_size : (rate channels frames samples : ℕ) → 1 ≤ channels → channels ≤ 8 → 1 ≤ rate →
    frames * channels ≡ samples → start_fault rate channels frames ≡ None
    → size_fault rate channels samples ≡ None
start_by_size rate channels frames samples low high some count e =
    let tested : start_fault rate channels frames ≡ size_fault rate channels (frames * channels) =
    rw (ne_eqb channels 0 (λ e. omega arith), le-ltb 8 channels high, ne_eqb rate 0 (λ e. omega arith)) refl in
    ap (λ n. size_fault rate channels n) (sym count) ∙ sym tested ∙ e

-- a last call that writes the samples behind the header
pub samples_put : {X : Type 0} (a b c : Option (List ℕ)) (s : Sound) (frames : ℕ) (r : Result X WavFault) →
    write_fault s ≡ None → frames * s.channels ≡ length s.samples
    → Appends a b (file_header s.rate s.channels frames) → Puts b c (sample_bytes s.samples) r →
    Writes a c (write_fault s) (canonical_wav s) r
samples_put a b c s frames (Ok x) fits count h p =
    (fits, Appends-trans a b c _ _ (subst (λ n. Appends a b (header s.rate s.channels (2 * n))) count h) p)
samples_put a b c s frames (Err faults.Write) fits count h p =
    (fits, AppendsFront-second a b c _ _ (subst (λ n. Appends a b (header s.rate s.channels (2 * n))) count h) p)
samples_put a b c s frames (Err faults.Read) fits count h p = absurd p
samples_put a b c s frames (Err faults.OutOfMemory) fits count h p = absurd p
samples_put a b c s frames (Err (faults.Format f)) fits count h p = absurd p

-- samples that are written in turn
pub puts_join : (a b c : Option (List ℕ)) (x y : List ℤ) → Appends a b (sample_bytes x) → Appends b c (sample_bytes y) →
    Appends a c (sample_bytes (x ++ y))
puts_join a b c x y p q =
    subst (Appends a c) (sym (flat_map-append (λ z. little_bytes 2 (cast_unsigned w16 z)) x y))
    (Appends-trans a b c _ _ p q)
