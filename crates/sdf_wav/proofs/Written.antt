-- Fronts of a file that were written, through one call after another.
use Rattle.std.proofs.Common.{◌≡◌, ℕ, ◌+◌, ◌-◌, ℤ, List, [], ◌++◌, take, drop, Option, Result, Ok, Err, sym, ap, subst}
use Rattle.std.proofs.Common.{◌∙◌, append_assoc, append-nil, take-append-drop, arith}
use Rattle.std.specs.Prelude.{slice_range, OnErr}
use Rattle.std.specs.List.{flat_map}
use Rattle.std.specs.Int.{w16, cast_unsigned}
use Rattle.byteorder.specs.Endian.{little_bytes}
use Rattle.std.proofs.lemmas.Grind.{flat_map-append}
use Rattle.std.specs.Io.KnownBytes.{Appends, Keeps}
use Rattle.std.proofs.KnownBytes.{Appends-trans, Appends-kept}
use lib.Seq.{take-add}
use Rattle.sdf_wav.specs.Device.{AppendsFront}
use Rattle.sdf_wav.specs.Canonical.{sample_bytes}

-- the first `at` bytes were written, and nothing more
pub AppendsFront-kept : (a b c : Option (List ℕ)) (at : ℕ) (bytes : List ℕ) → Appends a b (take at bytes) → Keeps b c →
    AppendsFront a c bytes
AppendsFront-kept a b c at bytes p q = record {
  front = take at bytes;
  rest = drop at bytes;
  whole = sym (take-append-drop at bytes);
  written = Appends-kept a b c (take at bytes) p q;
}

pub AppendsFront-none : (a b c : Option (List ℕ)) (at : ℕ) (bytes : List ℕ) (k : ℕ) (more : List ℕ) → k ≡ 0 →
    Appends a b (take at bytes) → Appends b c (take k more) → AppendsFront a c bytes
AppendsFront-none a b c at bytes k more zero p q = record {
  front = take at bytes;
  rest = drop at bytes;
  whole = sym (take-append-drop at bytes);
  written = subst (Appends a c) (append-nil (take at bytes))
      (Appends-trans a b c (take at bytes) [] p (subst (λ n. Appends b c (take n more)) zero q));
}

-- a front of a first part
pub AppendsFront-first : (a b : Option (List ℕ)) (x y : List ℕ) → AppendsFront a b x → AppendsFront a b (x ++ y)
AppendsFront-first a b x y p = record {
  front = p.front;
  rest = p.rest ++ y;
  whole = ap (λ l. l ++ y) p.whole ∙ append_assoc p.front p.rest y;
  written = p.written;
}

-- a front of a second part, behind the first
pub AppendsFront-second : (a b c : Option (List ℕ)) (x y : List ℕ) → Appends a b x → AppendsFront b c y →
    AppendsFront a c (x ++ y)
AppendsFront-second a b c x y p q = record {
  front = x ++ q.front;
  rest = q.rest;
  whole = ap (λ l. x ++ l) q.whole ∙ sym (append_assoc x q.front q.rest);
  written = Appends-trans a b c x q.front p q.written;
}

samples_split : (at n : ℕ) (samples : List ℤ) → sample_bytes (take (at + n) samples) ≡
    sample_bytes (take at samples) ++ sample_bytes (take n (drop at samples))
samples_split at n samples = ap sample_bytes (take-add at n samples)
    ∙ flat_map-append (λ z. little_bytes 2 (cast_unsigned w16 z)) (take at samples) (take n (drop at samples))

-- n more samples were written
pub samples_written : (a b c : Option (List ℕ)) (at n : ℕ) (samples : List ℤ) →
    Appends a b (sample_bytes (take at samples)) → Appends b c (sample_bytes (take n (drop at samples)))
    → Appends a c (sample_bytes (take (at + n) samples))
samples_written a b c at n samples p q = subst (Appends a c) (sym (samples_split at n samples))
    (Appends-trans a b c _ _ p q)

-- a front of n more samples was written
pub samples_begun : (a b c : Option (List ℕ)) (at n : ℕ) (samples : List ℤ) →
    Appends a b (sample_bytes (take at samples)) → AppendsFront b c (sample_bytes (take n (drop at samples)))
    → AppendsFront a c (sample_bytes samples)
samples_begun a b c at n samples p q =
    let part = AppendsFront-second a b c _ _ p q in
    let whole : sample_bytes samples ≡ sample_bytes (take (at + n) samples) ++ sample_bytes (drop (at + n) samples) =
    ap sample_bytes (sym (take-append-drop (at + n) samples))
    ∙ flat_map-append (λ z. little_bytes 2 (cast_unsigned w16 z)) (take (at + n) samples) (drop (at + n) samples) in
    subst (AppendsFront a c) (sym whole) (AppendsFront-first a c _ (sample_bytes (drop (at + n) samples))
    (subst (AppendsFront a c) (sym (samples_split at n samples)) part))

-- the bytes of a part of the samples
pub piece_is : (samples : List ℤ) (at n : ℕ) (bytes : List ℕ) →
    bytes ≡ flat_map (λ z. little_bytes 2 (cast_unsigned w16 z)) (slice_range samples at (at + n)) →
    bytes ≡ sample_bytes (take n (drop at samples))
piece_is samples at n bytes e =
    let k : (at + n) - at ≡ n = omega arith in
    e ∙ ap (λ m. sample_bytes (take m (drop at samples))) k

-- a last call that writes the second part
pub AppendsFront-last : {X E : Type 0} (a b c : Option (List ℕ)) (x y : List ℕ) (r : Result X E) → Appends a b x →
    OnErr r (AppendsFront b c y) → OnErr r (AppendsFront a c (x ++ y))
AppendsFront-last a b c x y (Ok u) p q = tt
AppendsFront-last a b c x y (Err e) p q = AppendsFront-second a b c x y p q
