-- The lists of a sound that is read on, and of the part of it that is kept.
use Rattle.std.proofs.Common.{◌≡◌, ℕ, zero, suc, ◌+◌, ◌*◌, ◌≤◌, ◌<◌, ℤ, pos, List, ◌∷◌, ◌++◌, length, map, get_or, drop}
use Rattle.std.proofs.Common.{refl, sym, ap, ◌∙◌, arith}
use Rattle.std.specs.List.{range_with_len}
use Rattle.std.proofs.Math.Nat.{mul-le-mul_right}
use Rattle.std.proofs.lemmas.List.{get_or_append_left, get_or-drop}
use Rattle.sdf_wav.specs.PiecesIn.{ContentInValue, sound_read}
use Rattle.sdf_wav.specs.Sound.{Sound}
use Rattle.sdf_process.specs.declared.io_rates.IoRates.{IoRates}
use Rattle.sdf_process.specs.Output.{sample, channel_samples, channel_samples_from, lists_to, lists_from}

-- lists by numbers with the same values
map_same : {X : Type 0} (f g : ℕ → X) (a b n : ℕ) → ((i : ℕ) → i < n → f (a + i) ≡ g (b + i)) →
    map f (range_with_len a n) ≡ map g (range_with_len b n)
map_same f g a b zero same = refl
map_same {X} f g a b (suc n) same =
    let here : f a ≡ g b = ap f (let z : a ≡ a + 0 = omega arith in z)
    ∙ (same 0 (omega arith) ∙ ap g (let z : b + 0 ≡ b = omega arith in z)) in
    let next : map f (range_with_len (a + 1) n) ≡ map g (range_with_len (b + 1) n) =
    map_same f g (a + 1) (b + 1) n
    (λ i l. ap f (let z : a + 1 + i ≡ a + (i + 1) = omega arith in z)
    ∙ (same (i + 1) (omega (arith, l)) ∙ ap g (let z : b + (i + 1) ≡ b + 1 + i = omega arith in z))) in
    ap (λ (x : X). x ∷ map f (range_with_len (a + 1) n)) here ∙ ap (λ (l : List X). g b ∷ l) next

-- the place of a sample lies before those of the next frame
place_before : (i e n k : ℕ) → i < n → e < k → i * k + e < n * k
place_before i e n k less here =
    let more : (i + 1) * k ≤ n * k = mul-le-mul_right k (let z : i + 1 ≤ n = omega (arith, less) in z) in
    omega (arith, more, here)

-- what is read on changes no sample before
pub lists_stay : (periods : ℕ) (x : IoRates) (c : ContentInValue) (xs ys : List ℤ) → x.inputs ≤ c.channels →
    periods * x.taken * c.channels ≤ length xs →
    lists_to periods x (sound_read c (xs ++ ys)) ≡ lists_to periods x (sound_read c xs)
lists_stay periods x c xs ys lower there =
    map_same (channel_samples (sound_read c (xs ++ ys)) (periods * x.taken))
    (channel_samples (sound_read c xs) (periods * x.taken)) 0 0 x.inputs
    (λ e here. map_same (sample (sound_read c (xs ++ ys)) (0 + e)) (sample (sound_read c xs) (0 + e)) 0 0
    (periods * x.taken)
    (λ i less. get_or_append_left xs ys (pos 0) ((0 + i) * c.channels + (0 + e))
    (let before : i * c.channels + e < periods * x.taken * c.channels =
    place_before i e (periods * x.taken) c.channels less (omega (arith, here, lower)) in
    let same : (0 + i) * c.channels + (0 + e) ≡ i * c.channels + e = omega arith in
    omega (arith, before, there, same))))

-- the lists of some periods are those of what stands behind the first ones
pub lists_behind : (at many : ℕ) (x : IoRates) (s t : Sound) → t.channels ≡ s.channels →
    t.samples ≡ drop (at * x.taken * s.channels) s.samples → lists_from at many x s ≡ lists_from 0 many x t
lists_behind at many x s t same rest =
    map_same (channel_samples_from s (at * x.taken) (many * x.taken))
    (channel_samples_from t (0 * x.taken) (many * x.taken)) 0 0 x.inputs
    (λ e here. map_same (sample s (0 + e)) (sample t (0 + e)) (at * x.taken) (0 * x.taken) (many * x.taken)
    (λ i less. sym (at_place (0 + e) i)))
  where
    at_place : (e i : ℕ) → sample t e (0 * x.taken + i) ≡ sample s e (at * x.taken + i)
    at_place e i =
        let place : at * x.taken * s.channels + ((0 * x.taken + i) * s.channels + e) ≡
        (at * x.taken + i) * s.channels + e = omega arith in
        ap (λ (l : List ℤ). get_or l ((0 * x.taken + i) * t.channels + e) (pos 0)) rest
        ∙ (ap (λ (k : ℕ). get_or (drop (at * x.taken * s.channels) s.samples) ((0 * x.taken + i) * k + e) (pos 0)) same
        ∙ (get_or-drop (at * x.taken * s.channels) s.samples ((0 * x.taken + i) * s.channels + e) (pos 0)
        ∙ ap (λ (k : ℕ). get_or s.samples k (pos 0)) place))
