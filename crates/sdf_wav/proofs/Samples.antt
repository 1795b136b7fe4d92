-- Samples that are read two bytes at a time, and in pieces.
use Rattle.std.proofs.Common.{◌≡◌, ℕ, zero, suc, ◌+◌, ◌-◌, ◌*◌, ◌/◌, ◌%◌, ◌<◌, ◌≤◌, min, ℤ, pos, get_or, length-append}
use Rattle.std.proofs.Common.{List, [], ◌∷◌, ◌++◌, length, take, drop, refl, sym, ap, ◌∙◌, arith, append_assoc}
use Rattle.std.proofs.Common.{length-drop, length-take}
use Rattle.std.proofs.lemmas.List.{drop-drop, drop_more, take_at, take_all, drop_all}
use Rattle.std.specs.Int.{w16, cast_signed}
use lib.Seq.{take-add}
use Rattle.byteorder.specs.Endian.{little_number, IsReadBy}
use Rattle.sdf_wav.proofs.Numbers.{number_front}
use Rattle.sdf_wav.specs.Device.{Fills}
use Rattle.sdf_wav.specs.Sound.{pcm_samples}
use Rattle.sdf_wav.specs.Content.{Holds}

one_sample : (bytes : List ℕ) → 2 ≤ length bytes →
    pcm_samples bytes ≡ cast_signed w16 (little_number 2 bytes) ∷ pcm_samples (drop 2 bytes)
one_sample [] h = absurd (omega arith)
one_sample (a ∷ []) h = absurd (omega arith)
one_sample (a ∷ b ∷ bytes) h = refl

pub pcm_samples-drop : (bytes : List ℕ) (i : ℕ) → i < length bytes / 2 →
    pcm_samples (drop (2 * i) bytes) ≡ cast_signed w16 (little_number 2 (drop (2 * i) bytes))
    ∷ pcm_samples (drop (2 * (i + 1)) bytes)
pcm_samples-drop bytes i lt =
    let next : 2 * i + 2 ≡ 2 * (i + 1) = omega arith in
    one_sample (drop (2 * i) bytes) (omega (arith, length-drop (2 * i) bytes))
    ∙ ap (λ (rest : List ℕ). cast_signed w16 (little_number 2 (drop (2 * i) bytes)) ∷ pcm_samples rest)
    (drop-drop 2 (2 * i) bytes ∙ ap (λ k. drop k bytes) next)

pub pcm_samples_short : (bytes : List ℕ) → length bytes < 2 → pcm_samples bytes ≡ []
pcm_samples_short [] h = refl
pcm_samples_short (a ∷ []) h = refl
pcm_samples_short (a ∷ b ∷ bytes) h = absurd (omega arith)

-- numbers that stand in the bytes, two bytes for each, are their samples from any place on
samples_from : (n i : ℕ) (bytes : List ℕ) (samples : List ℤ) → n + i ≡ length samples →
    length samples ≡ length bytes / 2
    → ((k : ℕ) → k < length samples → get_or samples k (pos 0) ≡ cast_signed w16 (little_number 2 (drop (2 * k) bytes)))
    → drop i samples ≡ pcm_samples (drop (2 * i) bytes)
samples_from zero i bytes samples e len h =
    drop_all i samples (omega arith) ∙ sym (pcm_samples_short (drop (2 * i) bytes)
    (omega (arith, length-drop (2 * i) bytes)))
samples_from (suc n) i bytes samples e len h =
    drop_more samples i (pos 0) (omega arith)
    ∙ ap (λ (l : List ℤ). get_or samples i (pos 0) ∷ l) (samples_from n (i + 1) bytes samples (omega arith) len h)
    ∙ ap (λ (z : ℤ). z ∷ pcm_samples (drop (2 * (i + 1)) bytes)) (h i (omega arith))
    ∙ sym (pcm_samples-drop bytes i (omega arith))

-- what is read of the even front of the bytes is their samples
pub samples_read : (bytes : List ℕ) (samples : List ℤ) → length samples ≡ length bytes / 2
    → IsReadBy (λ b. cast_signed w16 (little_number 2 b)) 2 (take (2 * (length bytes / 2)) bytes) samples →
    samples ≡ pcm_samples bytes
samples_read bytes samples len read =
    samples_from (length samples) 0 bytes samples (omega arith) len
    (λ k lt. read (pos 0) k lt ∙ ap (λ (n : ℕ). cast_signed w16 n)
    (number_front (2 * k) 2 (2 * (length bytes / 2)) bytes (omega arith)))

-- a list whose places behind the first are written anew
pub tail_written : (old fill new : List ℤ) (all : List ℤ) (at n : ℕ) (post more : List ℤ) → all ≡ old ++ fill →
    at ≡ length old → n ≡ at + length new
    → take n ((take at all ++ (new ++ post)) ++ more) ≡ old ++ new
tail_written old fill new all at n post more whole start len =
    let front : take at all ≡ old = ap (take at) whole ∙ take_at old fill at (sym start) in
    let joined : (old ++ (new ++ post)) ++ more ≡ (old ++ new) ++ (post ++ more) =
    ap (λ (l : List ℤ). l ++ more) (sym (append_assoc old new post)) ∙ append_assoc (old ++ new) post more in
    ap (λ (l : List ℤ). take n ((l ++ (new ++ post)) ++ more)) front ∙ ap (take n) joined
    ∙ take_at (old ++ new) (post ++ more) n (omega (arith, length-append old new))

-- whole pieces

-- two bytes for each sample
pub pcm_count : (bytes : List ℕ) → length (pcm_samples bytes) ≡ length bytes / 2
pcm_count [] = refl
pcm_count (a ∷ []) = refl
pcm_count (a ∷ b ∷ bytes) = omega (arith, pcm_count bytes)

pub pcm_samples-append : (front rest : List ℕ) → length front % 2 ≡ 0 →
    pcm_samples (front ++ rest) ≡ pcm_samples front ++ pcm_samples rest
pcm_samples-append [] rest h = refl
pcm_samples-append (a ∷ []) rest h = absurd (omega arith)
pcm_samples-append (a ∷ b ∷ front) rest h = ap (λ (l : List ℤ). cast_signed w16 (little_number 2 (a ∷ b ∷ [])) ∷ l)
    (pcm_samples-append front rest (omega arith))

joined : (input mid : List ℕ) (bytes want : ℕ) → bytes % 2 ≡ 0 → bytes ≤ length input → mid ≡ drop bytes input
    → pcm_samples (take bytes input) ++ pcm_samples (take want mid) ≡ pcm_samples (take (bytes + want) input)
joined input mid bytes want even within mid-is =
    ap (λ (l : List ℕ). pcm_samples (take bytes input) ++ pcm_samples (take want l)) mid-is
    ∙ sym (pcm_samples-append (take bytes input) (take want (drop bytes input))
    (omega (arith, length-take bytes input)))
    ∙ ap pcm_samples (sym (take-add bytes want input))

pub Holds-more : (input mid left buf : List ℕ) (bytes n : ℕ) (old new : List ℤ) → bytes % 2 ≡ 0 → length buf ≤ n →
    Holds input mid bytes bytes old → Fills mid left buf n → new ≡ old ++ pcm_samples (take n buf)
    → Holds input left (bytes + n) (bytes + n) new
Holds-more input mid left buf bytes n old new even full h f e =
    let within : bytes ≤ length input = omega (arith, h.count) in
    let n-is : length buf ≡ n = omega (arith, f.count) in
    let enough : length mid ≡ length input - bytes = ap length h.left_is ∙ length-drop bytes input in
    record {
      count = omega (arith, f.count);
      samples_are = e ∙ ap (λ (l : List ℤ). l ++ pcm_samples (take n buf)) h.samples_are
          ∙ ap (λ (l : List ℕ). pcm_samples (take bytes input) ++ pcm_samples l) (f.bytes ∙ ap (λ k. take k mid) n-is)
          ∙ joined input mid bytes n even within h.left_is;
      left_is = f.left_is ∙ ap (λ k. drop k mid) n-is ∙ ap (drop n) h.left_is ∙ drop-drop n bytes input;
    }

-- a piece that the input did not fill
pub Holds-short : (input mid left buf : List ℕ) (limit bytes n : ℕ) (old new : List ℤ) → bytes % 2 ≡ 0 →
    bytes + length buf ≤ limit → n < length buf → Holds input mid bytes bytes old → Fills mid left buf n →
    new ≡ old ++ pcm_samples (take n buf)
    → Holds input left limit (bytes + n) new
Holds-short input mid left buf limit bytes n old new even room short h f e =
    let within : bytes ≤ length input = omega (arith, h.count) in
    let enough : length mid ≡ length input - bytes = ap length h.left_is ∙ length-drop bytes input in
    let all : bytes + n ≡ length input = omega (arith, f.count) in
    let long : length input ≤ limit = omega arith in
    record {
      count = omega arith;
      samples_are = e ∙ ap (λ (l : List ℤ). l ++ pcm_samples (take n buf)) h.samples_are
          ∙ ap (λ (l : List ℕ). pcm_samples (take bytes input) ++ pcm_samples l) f.bytes
          ∙ joined input mid bytes (length buf) even within h.left_is
          ∙ ap pcm_samples (take_all (bytes + length buf) input (omega arith) ∙ sym (take_all limit input long));
      left_is = f.left_is ∙ drop_all (length buf) mid (omega arith) ∙ sym (drop_all limit input long);
    }

pub even_more : (limit bytes want got : ℕ) → limit % 2 ≡ 0 → bytes % 2 ≡ 0 → want ≡ min (limit - bytes) 16384 →
    want ≤ got → got ≤ want → (bytes + got) % 2 ≡ 0
even_more limit bytes want got e b is low high = omega arith

pub count_more : (bytes got old new : ℕ) → bytes % 2 ≡ 0 → old ≡ bytes / 2 → new ≡ old + got / 2 →
    new ≡ (bytes + got) / 2
count_more bytes got old new b o n = omega arith
