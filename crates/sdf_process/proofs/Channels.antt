-- Channels that are copied out of frames, and frames that are filled a channel at a time.
use Rattle.std.proofs.Common.{◌≡◌, ◌≢◌, ℕ, zero, suc, ◌+◌, ◌*◌, ◌≤◌, ◌<◌, List, [], ◌++◌, ℤ, pos, get_or, length, map}
use Rattle.std.proofs.Common.{take, drop, set, inl, inr, sym, ap, add-zero, ◌∙◌, arith, length-drop, get_or-set_other}
use Rattle.std.proofs.Common.{get_or-set_same}
use Rattle.std.specs.Int.{w16, saturate_signed}
use Rattle.std.specs.List.{range_with_len}
use Rattle.std.proofs.Math.Nat.{suc-mul, zero-mul}
use Rattle.std.proofs.lemmas.Bool.{cases_eq, cases_lt}
use Rattle.std.proofs.lemmas.List.{ext_get_or, get_or-drop, get_or-map, get_or-take, get_or_past, length-map}
use Rattle.std.proofs.lemmas.List.{length-take-le, length-take, nil_from_length, take-append-drop}
use Rattle.std.proofs.lemmas.List.FromFn.{get_or-map-range_with_len, length-range_with_len}
use Rattle.std.proofs.lemmas.Nat.{same_from_place}
use Rattle.sdf_wav.specs.Sound.{Sound}
use Rattle.sdf_process.specs.Output.{channel_samples_from, frame, interleaved_from, sample}

-- a list that holds every so many-th sample of a sound is a channel of it
pub channel_copied : (s : Sound) (from len channel : ℕ) (list : List ℤ) → length list ≡ len →
    ((i : ℕ) → i < len → get_or list i (pos 0) ≡
    get_or s.samples (from * s.channels + channel + i * s.channels) (pos 0)) →
    list ≡ channel_samples_from s from len channel
channel_copied s from len channel list count at =
    let f : ℕ → ℤ = sample s channel in
    let same : length list ≡ length (map f (range_with_len from len)) =
    count ∙ sym (length-map (range_with_len from len) f ∙ length-range_with_len from len) in
    ext_get_or (pos 0) list (map f (range_with_len from len)) same
    (λ i lt.
    let within : i < len = omega (arith, count, lt) in
    let place : from * s.channels + channel + i * s.channels ≡ (from + i) * s.channels + channel = omega arith in
    at i within ∙ ap (λ k. get_or s.samples k (pos 0)) place
    ∙ sym (get_or-map-range_with_len f from len i (from + i) (pos 0) within (omega arith)))

-- a front of a list holds what another one holds at a place that both have or neither has
front_same : (xs : List ℤ) (a i : ℕ) → i ≢ a → get_or (take a xs) i (pos 0) ≡ get_or (take (a + 1) xs) i (pos 0)
front_same xs a i other =
    elim (cases_lt i a) [
      | inl lt ↦ get_or-take a xs i (pos 0) lt ∙ sym (get_or-take (a + 1) xs i (pos 0) (omega arith))
      | inr le ↦ get_or_past (take a xs) i (pos 0) (omega (arith, length-take a xs))
          ∙ sym (get_or_past (take (a + 1) xs) i (pos 0) (omega (arith, length-take (a + 1) xs)))
    ]

-- a channel that holds a front of a list, and one sample more
pub channel_more : (samples xs : List ℤ) (channels channel a : ℕ) (z : ℤ) → channel < channels →
    a * channels + channel < length samples → z ≡ saturate_signed w16 (get_or xs a (pos 0)) →
    ((i : ℕ) → get_or samples (i * channels + channel) (pos 0) ≡
    saturate_signed w16 (get_or (take a xs) i (pos 0))) →
    (i : ℕ) → get_or (set samples (a * channels + channel) z) (i * channels + channel) (pos 0) ≡
    saturate_signed w16 (get_or (take (a + 1) xs) i (pos 0))
channel_more samples xs channels channel a z in_frame within is before i =
    elim (cases_eq i a) [
      | inl same ↦
          ap (λ k. get_or (set samples (a * channels + channel) z) (k * channels + channel) (pos 0)) same
          ∙ get_or-set_same samples (a * channels + channel) z (pos 0) within ∙ is
          ∙ ap (saturate_signed w16) (sym (get_or-take (a + 1) xs a (pos 0) (omega arith))
          ∙ ap (λ k. get_or (take (a + 1) xs) k (pos 0)) (sym same))
      | inr other ↦
          get_or-set_other samples (a * channels + channel) (i * channels + channel) z (pos 0)
          (λ e. other (same_from_place i channel a channel channels in_frame in_frame e).0)
          ∙ before i ∙ ap (saturate_signed w16) (front_same xs a i other)
    ]

-- what is written into a channel leaves the others
pub other_channel : (samples : List ℤ) (channels channel a : ℕ) (z : ℤ) (i e : ℕ) → channel < channels →
    e < channels → e ≢ channel →
    get_or (set samples (a * channels + channel) z) (i * channels + e) (pos 0) ≡
    get_or samples (i * channels + e) (pos 0)
other_channel samples channels channel a z i e in_frame in_frame_too other =
    get_or-set_other samples (a * channels + channel) (i * channels + e) z (pos 0)
    (λ p. other (same_from_place i e a channel channels in_frame_too in_frame p).1)

-- one channel more of frames of lists
pub channels_more : (xs : List (List ℤ)) (n channels channel : ℕ) (old new part : List ℤ) → channel < channels →
    part ≡ take n (get_or xs channel []) →
    ((i : ℕ) → get_or new (i * channels + channel) (pos 0) ≡ saturate_signed w16 (get_or part i (pos 0))) →
    ((i e : ℕ) → e < channels → e ≢ channel →
    get_or new (i * channels + e) (pos 0) ≡ get_or old (i * channels + e) (pos 0)) →
    ((i e : ℕ) → i < n → e < channel → get_or old (i * channels + e) (pos 0) ≡
    saturate_signed w16 (get_or (get_or xs e []) i (pos 0))) →
    (i e : ℕ) → i < n → e < channel + 1 → get_or new (i * channels + e) (pos 0) ≡
    saturate_signed w16 (get_or (get_or xs e []) i (pos 0))
channels_more xs n channels channel old new part within is put kept before i e lt below =
    elim (cases_eq e channel) [
      | inl same ↦
          ap (λ k. get_or new (i * channels + k) (pos 0)) same ∙ put i
          ∙ ap (saturate_signed w16) (ap (λ l. get_or l i (pos 0)) is
          ∙ get_or-take n (get_or xs channel []) i (pos 0) lt
          ∙ ap (λ k. get_or (get_or xs k []) i (pos 0)) (sym same))
      | inr other ↦ kept i e (omega (arith, below, within)) other ∙ before i e lt (omega (arith, below, other))
    ]

-- and the channels behind it stay silent
pub silent_rest : (channels channel : ℕ) (old new : List ℤ) →
    ((i e : ℕ) → e < channels → e ≢ channel →
    get_or new (i * channels + e) (pos 0) ≡ get_or old (i * channels + e) (pos 0)) →
    ((i e : ℕ) → channel ≤ e → e < channels → get_or old (i * channels + e) (pos 0) ≡ pos 0) →
    (i e : ℕ) → channel + 1 ≤ e → e < channels → get_or new (i * channels + e) (pos 0) ≡ pos 0
silent_rest channels channel old new kept before i e behind within =
    kept i e within (λ same. omega (arith, same, behind)) ∙ before i e (omega (arith, behind)) within

-- samples that stand where the frames of lists have them are these frames
pub frames_filled : (xs : List (List ℤ)) (from n channels : ℕ) → length xs ≡ channels → (samples : List ℤ) →
    length samples ≡ n * channels →
    ((i e : ℕ) → i < n → e < channels → get_or samples (i * channels + e) (pos 0) ≡
    saturate_signed w16 (get_or (get_or xs e []) (from + i) (pos 0))) →
    samples ≡ interleaved_from from n xs
frames_filled xs from zero channels is samples count at = nil_from_length samples (count ∙ zero-mul channels)
frames_filled xs from (suc n) channels is samples count at =
    let many : length samples ≡ n * channels + channels = count ∙ suc-mul n channels in
    let clamp : List ℤ → ℤ = λ ys. saturate_signed w16 (get_or ys from (pos 0)) in
    let first : take channels samples ≡ frame xs from =
    ext_get_or (pos 0) (take channels samples) (frame xs from)
    (length-take-le channels samples (omega arith) ∙ sym (length-map xs clamp ∙ is))
    (λ e lt.
    let in_frame : e < channels = omega (arith, length-take-le channels samples (omega arith)) in
    let first_place : e ≡ 0 * channels + e = omega (arith, zero-mul channels) in
    get_or-take channels samples e (pos 0) in_frame
    ∙ ap (λ k. get_or samples k (pos 0)) first_place
    ∙ at 0 e (omega arith) in_frame
    ∙ ap (λ k. saturate_signed w16 (get_or (get_or xs e []) k (pos 0))) (add-zero from)
    ∙ sym (get_or-map clamp xs e [] (pos 0) (omega (arith, is, in_frame)))) in
    let rest : drop channels samples ≡ interleaved_from (from + 1) n xs =
    frames_filled xs (from + 1) n channels is (drop channels samples)
    (length-drop channels samples ∙ omega arith)
    (λ i e lt in_frame.
    let place : channels + (i * channels + e) ≡ suc i * channels + e = omega (arith, suc-mul i channels) in
    let frame_is : from + suc i ≡ from + 1 + i = omega arith in
    get_or-drop channels samples (i * channels + e) (pos 0)
    ∙ ap (λ k. get_or samples k (pos 0)) place
    ∙ at (suc i) e (omega arith) in_frame
    ∙ ap (λ k. saturate_signed w16 (get_or (get_or xs e []) k (pos 0))) frame_is) in
    sym (take-append-drop channels samples)
    ∙ ap (λ l. l ++ drop channels samples) first
    ∙ ap (λ l. frame xs from ++ l) rest
