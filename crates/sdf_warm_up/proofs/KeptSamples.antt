-- The kinds of the kit forget.
use Rattle.std.proofs.Common.{◌≡◌, ℕ, zero, suc, ◌+◌, ◌-◌, ◌*◌, ◌≤◌, ◌<◌, ℤ, pos, List, [], ◌∷◌, ◌++◌, length}
use Rattle.std.proofs.Common.{get_or, drop, replicate, refl, sym, ap, ◌∙◌, ⊎_elim, arith, append_assoc, append-nil}
use Rattle.std.specs.Prelude.{nat_abs}
use Rattle.std.proofs.lemmas.Bool.{cases_lt}
use Rattle.std.specs.List.{flat_map}
use Rattle.std.proofs.lemmas.Grind.{div_ceil_times, flat_map-append}
use Rattle.std.proofs.lemmas.List.{length-append, length-replicate, drop-append-le, drop-drop, get_or-append-add}
use Rattle.std.proofs.lemmas.List.{drop_at, get_or-drop, get_or-replicate, get_or_append_left}
use Rattle.std.proofs.Math.Nat.{suc-mul, zero-mul, mul-le-mul_right}
use Rattle.sdf_actor.specs.Steps.{phase, total_in, state_from, state_after}
use Rattle.sdf_kit.specs.Fir.{Filter, kept_len}
use Rattle.sdf_kit.specs.Kept.{kept_next}
use Rattle.sdf_kit.specs.Kit.{kit_steps, behaviour}
use Rattle.sdf_kit.specs.declared.kit.Kit.{Kit}
use Rattle.sdf_kit.specs.declared.kit.Kit.TheVariants.{Fir, Decimate, Interpolate, Add, Fork, Gain, Delay, Table, Deal}
use Rattle.sdf_kit.specs.declared.kit.Kit.TheVariants.{Gather, Clip, Offset}
use Rattle.sdf_warm_up.specs.KitMemory.{memory_of}
use Rattle.sdf_warm_up.specs.Warm.{AreTaken, Forgets, IsLeast}

abbrev joined : List (List ℤ) → List ℤ
joined bs = flat_map (λ (b : List ℤ). b) bs

joined_long : (rate : ℕ) (bs : List (List ℤ)) → ((i : ℕ) → i < length bs → length (get_or bs i []) ≡ rate) →
    length (joined bs) ≡ length bs * rate
joined_long rate [] each = sym (zero-mul rate)
joined_long rate (b ∷ bs) each =
    let rest = joined_long rate bs (λ i l. each (suc i) (omega arith)) in
    omega (arith, length-append b (joined bs), each 0 (omega arith), suc-mul (length bs) rate)

-- k firings that take zeros, and one before them that takes other samples
abbrev silence : ℕ → ℕ → List (List ℤ)
silence rate k = replicate k (replicate rate (pos 0))

abbrev sound : ℕ → ℕ → ℕ → List (List ℤ)
sound rate k v = replicate rate (pos v) ∷ silence rate k

-- what stands behind a front
drop_past : (xs ys : List ℤ) (n : ℕ) → length xs ≤ n → drop n (xs ++ ys) ≡ drop (n - length xs) ys
drop_past xs ys n h =
    let at : n ≡ length xs + (n - length xs) = omega arith in
    ap (λ m. drop m (xs ++ ys)) at ∙
    (sym (drop-drop (n - length xs) (length xs) (xs ++ ys)) ∙
    ap (drop (n - length xs)) (drop_at xs ys (length xs) refl))

-- an actor that keeps the newest of the samples kept and taken
module _ (x : Kit) (next : (j : ℕ) (kept b : List ℤ) → kit_steps.next x j kept b ≡ kept_next kept b) (rate : ℕ)
    (rates : (j : ℕ) → total_in kit_steps x j ≡ rate) where
  slides : (j : ℕ) (kept : List ℤ) (bs : List (List ℤ)) →
      state_from kit_steps x j kept bs ≡ drop (length (joined bs)) (kept ++ joined bs)
  slides j kept [] = sym (append-nil kept)
  slides j kept (b ∷ bs) =
      let more : List ℤ = joined bs in
      let within : length b ≤ length (kept ++ b) = omega (arith, length-append kept b) in
      let many : length b + length more ≡ length (b ++ more) = omega (arith, length-append b more) in
      ap (λ k. state_from kit_steps x (j + 1) k bs) (next (phase kit_steps x j) kept b) ∙
      (slides (j + 1) (kept_next kept b) bs ∙
      (ap (drop (length more)) (sym (drop-append-le (length b) (kept ++ b) more within)) ∙
      (drop-drop (length more) (length b) ((kept ++ b) ++ more) ∙
      (λ κ. drop (many κ) (append_assoc kept b more κ)))))

  -- once as many were taken as are kept, these are all that is left
  last_ones : (early later : List (List ℤ)) → (behaviour x).kept ≤ length (joined later) →
      state_after kit_steps x (early ++ later) ≡ drop (length (joined later) - (behaviour x).kept) (joined later)
  last_ones early later enough =
      let zeros : List ℤ = replicate (behaviour x).kept (pos 0) in
      let old : List ℤ = joined early in
      let new : List ℤ = joined later in
      let long : length zeros ≡ (behaviour x).kept = length-replicate (behaviour x).kept (pos 0) in
      let both : length (zeros ++ old) ≡ (behaviour x).kept + length old = omega (arith, length-append zeros old) in
      let parts : joined (early ++ later) ≡ old ++ new = flat_map-append (λ (b : List ℤ). b) early later in
      let all : length (old ++ new) ≡ length old + length new = length-append old new in
      let at : length (old ++ new) - length (zeros ++ old) ≡ length new - (behaviour x).kept = omega arith in
      slides 0 zeros (early ++ later) ∙
      ((λ κ. drop (length (parts κ)) (zeros ++ parts κ)) ∙
      (ap (drop (length (old ++ new))) (sym (append_assoc zeros old new)) ∙
      (drop_past (zeros ++ old) new (length (old ++ new)) (omega arith) ∙ ap (λ m. drop m new) at)))

  forgets : (m : ℕ) → (behaviour x).kept ≤ m * rate → Forgets kit_steps x m
  forgets m enough early other later turn many sized also =
      let size : (i : ℕ) → i < length later → length (get_or later i []) ≡ rate =
      (λ i l. ap length (sym (get_or-append-add early later i [])) ∙
      (sized (length early + i) (omega (arith, length-append early later)) ∙
      rates (phase kit_steps x (length early + i)))) in
      let long : length (joined later) ≡ length later * rate = joined_long rate later size in
      let most : m * rate ≤ length later * rate = mul-le-mul_right rate many in
      last_ones early later (omega arith) ∙ sym (last_ones other later (omega arith))

  module _ (k : ℕ) (v : ℕ) where
    taken : AreTaken kit_steps x (sound rate k v)
    taken zero l = length-replicate rate (pos v) ∙ sym (rates (phase kit_steps x 0))
    taken (suc i) l =
        let within : i < k = omega (arith, length-replicate k (replicate rate (pos 0))) in
        ap length (get_or-replicate k i (replicate rate (pos 0)) [] within)
        ∙ (length-replicate rate (pos 0) ∙ sym (rates (phase kit_steps x (suc i))))

    -- the last of the first ones stands in its place, if fewer are taken after it than are kept
    seen : 0 < rate → k * rate < (behaviour x).kept →
        get_or (state_after kit_steps x (sound rate k v)) ((behaviour x).kept - k * rate - 1) (pos 0) ≡ pos v
    seen some few =
        let l : ℕ = (behaviour x).kept in
        let old : List ℤ = replicate l (pos 0) in
        let own : List ℤ = replicate rate (pos v) in
        let after : List ℤ = joined (silence rate k) in
        let long : length (silence rate k) ≡ k = length-replicate k (replicate rate (pos 0)) in
        let more : length after ≡ length (silence rate k) * rate = joined_long rate (silence rate k)
        (λ i h. ap length (get_or-replicate k i (replicate rate (pos 0)) [] (omega arith))
        ∙ length-replicate rate (pos 0)) in
        let times : length (silence rate k) * rate ≡ k * rate = ap (λ n. n * rate) long in
        let all : length (own ++ after) ≡ length own + length after = length-append own after in
        let at : length (own ++ after) + (l - k * rate - 1) ≡ length old + (rate - 1) =
        omega (arith, length-replicate rate (pos v), length-replicate l (pos 0)) in
        ap (λ xs. get_or xs (l - k * rate - 1) (pos 0)) (slides 0 old (sound rate k v))
        ∙ (get_or-drop (length (own ++ after)) (old ++ (own ++ after)) (l - k * rate - 1) (pos 0)
        ∙ (ap (λ n. get_or (old ++ (own ++ after)) n (pos 0)) at
        ∙ (get_or-append-add old (own ++ after) (rate - 1) (pos 0)
        ∙ (get_or_append_left own after (pos 0) (rate - 1) (omega (arith, length-replicate rate (pos v)))
        ∙ get_or-replicate rate (rate - 1) (pos v) (pos 0) (omega arith)))))

  remembers : 0 < rate → (k : ℕ) → k * rate < (behaviour x).kept → Forgets kit_steps x k → ⊥
  remembers some k few forgotten =
      let same : state_after kit_steps x (sound rate k 0) ≡ state_after kit_steps x (sound rate k 1) =
      forgotten (replicate rate (pos 0) ∷ []) (replicate rate (pos 1) ∷ []) (silence rate k) refl
      (let long : length (silence rate k) ≡ k = length-replicate k (replicate rate (pos 0)) in omega (arith, long))
      (taken k 0) (taken k 1) in
      let equal : pos 0 ≡ pos 1 = sym (seen k 0 some few)
      ∙ (ap (λ xs. get_or xs ((behaviour x).kept - k * rate - 1) (pos 0)) same ∙ seen k 1 some few) in
      let e : 0 ≡ 1 = ap nat_abs equal in
      omega (arith, e)

-- an actor that keeps nothing
keeps : (x : Kit) → ((j : ℕ) (kept b : List ℤ) → kit_steps.next x j kept b ≡ kept) → (j : ℕ) (kept : List ℤ)
    (bs : List (List ℤ)) → state_from kit_steps x j kept bs ≡ kept
keeps x next j kept [] = refl
keeps x next j kept (b ∷ bs) =
    ap (λ k. state_from kit_steps x (j + 1) k bs) (next (phase kit_steps x j) kept b) ∙ keeps x next (j + 1) kept bs

plain : (x : Kit) → ((j : ℕ) (kept b : List ℤ) → kit_steps.next x j kept b ≡ kept) → IsLeast (Forgets kit_steps x) 0
plain x next = record {
  is = λ early other later turn many sized also.
      keeps x next 0 (kit_steps.start x) (early ++ later) ∙ sym (keeps x next 0 (kit_steps.start x) (other ++ later));
  least = λ k forgotten. omega arith;
}

pub fir_memory : (f : Filter) → 0 < f.down → IsLeast (Forgets kit_steps (Fir f)) (memory_of (Fir f))
fir_memory f some =
    let count = div_ceil_times (kept_len f) f.down some in
    record {
      is = forgets (Fir f) (λ j kept b. refl) f.down (λ j. omega arith) (memory_of (Fir f)) count.0;
      least = λ k forgotten. ⊎_elim
          (λ fewer. let most : (k + 1) * f.down ≤ memory_of (Fir f) * f.down =
          mul-le-mul_right f.down (omega arith) in
          let one_more : (k + 1) * f.down ≡ k * f.down + f.down = omega arith in
          absurd (remembers (Fir f) (λ j kept b. refl) f.down (λ j. omega arith) some k
          (omega (arith, count.1, most, one_more)) forgotten))
          (λ enough. enough)
          (cases_lt k (memory_of (Fir f)));
    }

pub delay_memory : (d : ℕ) → IsLeast (Forgets kit_steps (Delay d)) d
delay_memory d = record {
  is = forgets (Delay d) (λ j kept b. refl) 1 (λ j. omega arith) d (omega arith);
  least = λ k forgotten. ⊎_elim
      (λ fewer. absurd (remembers (Delay d) (λ j kept b. refl) 1 (λ j. omega arith) (omega arith) k (omega arith)
      forgotten))
      (λ enough. enough)
      (cases_lt k d);
}

pub others_forget : (x : Kit) → ((f : Filter) → x ≡ Fir f → ⊥) → ((d : ℕ) → x ≡ Delay d → ⊥) →
    IsLeast (Forgets kit_steps x) 0
others_forget (Fir f) no_fir no_delay = absurd (no_fir f refl)
others_forget (Delay d) no_fir no_delay = absurd (no_delay d refl)
others_forget (Decimate m) no_fir no_delay = plain (Decimate m) (λ j kept b. refl)
others_forget (Interpolate l) no_fir no_delay = plain (Interpolate l) (λ j kept b. refl)
others_forget (Add w) no_fir no_delay = plain (Add w) (λ j kept b. refl)
others_forget (Fork w) no_fir no_delay = plain (Fork w) (λ j kept b. refl)
others_forget (Gain g) no_fir no_delay = plain (Gain g) (λ j kept b. refl)
others_forget (Table t) no_fir no_delay = plain (Table t) (λ j kept b. refl)
others_forget (Deal t) no_fir no_delay = plain (Deal t) (λ j kept b. refl)
others_forget (Gather t) no_fir no_delay = plain (Gather t) (λ j kept b. refl)
others_forget (Clip c) no_fir no_delay = plain (Clip c) (λ j kept b. refl)
others_forget (Offset v) no_fir no_delay = plain (Offset v) (λ j kept b. refl)
