-- The sound of interleaved lists.
use Rattle.std.proofs.Common.{◌≡◌, ℕ, zero, suc, ◌+◌, ◌*◌, ◌%◌, ◌≤◌, ◌<◌, nat_lt, eqb, ◌||◌, not, Bool, true, false}
use Rattle.std.proofs.Common.{get_or, pos, ℤ, List, length, None, Ok, sym, ap, ◌∙◌, arith}
use Rattle.std.specs.List.{flat_map, range_with_len}
use Rattle.std.proofs.Math.Nat.{suc-mul, zero-mul, add_comm}
use Rattle.std.specs.Int.{w16, saturate_signed}
use Rattle.std.proofs.lemmas.List.Concat.{flat_map-cons}
use Rattle.std.proofs.lemmas.Bool.{le-ltb, ne_eqb, eq-eqb, true≢false, cond-false}
use Rattle.std.proofs.lemmas.List.{length-append, length-map}
use Rattle.sdf_wav.specs.Sound.{sound_of}
use Rattle.sdf_wav.specs.Canonical.{size_fault}
use Rattle.sdf_wav.specs.PiecesOut.{start_fault}
use Rattle.sdf_process.specs.Output.{frame, interleaved}

pub frames_length : (xs : List (List ℤ)) (a n : ℕ) → length (flat_map (frame xs) (range_with_len a n)) ≡ n * length xs
frames_length xs a zero = sym (zero-mul (length xs))
frames_length xs a (suc n) =
    ap length (flat_map-cons (frame xs) a (range_with_len (a + 1) n))
    ∙ length-append (frame xs a) (flat_map (frame xs) (range_with_len (a + 1) n))
    ∙ ap (λ k. k + length (flat_map (frame xs) (range_with_len (a + 1) n)))
    (length-map xs (λ (ys : List ℤ). saturate_signed w16 (get_or ys a (pos 0))))
    ∙ ap (λ k. length xs + k) (frames_length xs (a + 1) n)
    ∙ add_comm (length xs) (n * length xs)
    ∙ sym (suc-mul n (length xs))

-- frames have a sample of each list
pub length-interleaved : (n : ℕ) (xs : List (List ℤ)) → length (interleaved n xs) ≡ n * length xs
length-interleaved n xs = frames_length xs 0 n

or_false : (x y : Bool) → x ≡ false → y ≡ false → (x || y) ≡ false
or_false false y p q = q
or_false true y p q = absurd (true≢false p)

no_channels : (channels : ℕ) → 1 ≤ channels → channels ≤ 8 → ((eqb channels 0) || nat_lt 8 channels) ≡ false
no_channels channels one eight = or_false (eqb channels 0) (nat_lt 8 channels) (ne_eqb channels 0 (λ e. omega arith))
    (le-ltb 8 channels eight)

-- samples of whole frames are a sound
pub sound_is : (rate channels : ℕ) (samples : List ℤ) → 1 ≤ rate → 1 ≤ channels → channels ≤ 8 →
    length samples % channels ≡ 0 →
    sound_of rate channels samples ≡ Ok (record { rate = rate; channels = channels; samples = samples })
sound_is rate channels samples some one eight whole =
    cond-false ((eqb channels 0) || nat_lt 8 channels) _ _ (no_channels channels one eight)
    ∙ cond-false (eqb rate 0) _ _ (ne_eqb rate 0 (λ e. omega arith))
    ∙ cond-false (not (eqb (length samples % channels) 0)) _ _ (ap not (eq-eqb (length samples % channels) 0 whole))

-- and of a few of them there is a file
pub size_fits : (rate channels samples : ℕ) → rate * (2 * channels) ≤ 4294967295 → 2 * samples ≤ 4294967259 →
    size_fault rate channels samples ≡ None
size_fits rate channels samples second bytes =
    cond-false (nat_lt 4294967295 (rate * (2 * channels))) _ _ (le-ltb 4294967295 (rate * (2 * channels)) second)
    ∙ cond-false (nat_lt 4294967259 (2 * samples)) _ _ (le-ltb 4294967259 (2 * samples) bytes)

-- so a file of them can be started
pub start_allowed : (rate channels frames : ℕ) → 0 < rate → 1 ≤ channels → channels ≤ 8 →
    rate * (2 * channels) ≤ 4294967295 → 2 * (frames * channels) ≤ 4294967259 → start_fault rate channels frames ≡ None
start_allowed rate channels frames some one eight second bytes =
    cond-false ((eqb channels 0) || nat_lt 8 channels) _ _ (no_channels channels one eight)
    ∙ cond-false (eqb rate 0) _ _ (ne_eqb rate 0 (λ e. omega arith))
    ∙ size_fits rate channels (frames * channels) second bytes
