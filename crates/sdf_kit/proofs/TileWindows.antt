-- The samples that tiles see of a window.
use Rattle.std.proofs.Common.{◌≡◌, ℕ, ◌+◌, ◌-◌, ◌≤◌, ◌<◌, ℤ, pos, List, length, take, drop, get_or, sym, ap, ◌∙◌}
use Rattle.std.proofs.Common.{FitsSigned, subst, arith, ⊎_elim}
use Rattle.std.proofs.lemmas.List.{drop-take, length-take, get_or-take, get_or-drop, ext_get_or}
use Rattle.std.proofs.lemmas.Bool.{cases_lt}
use Rattle.std.proofs.lemmas.Simd.{Each1-get_or}
use Rattle.std.specs.Simd.Lanes.{Each1}
use Rattle.std.specs.Int.{w16}
use Rattle.sdf_kit.proofs.Branching.{each1}
use Rattle.sdf_kit.specs.Window.{WindowValue, held, AreHeld}
use Rattle.sdf_kit.specs.Dots.{AreWithin}
use Rattle.sdf_kit.specs.declared.branches.Limits.{Limits}
use Rattle.sdf_kit.specs.declared.window.SampleForm.{SampleForm}
use Rattle.sdf_kit.specs.declared.window.SampleForm.TheVariants.{Quiet, Wide}

-- the samples of a window from `pad` on, and two places beyond
module _ (high : List ℤ) (pad len : ℕ) (long : length high ≡ 2064) (low : pad ≤ len) (few : len ≤ 2048) where
  abbrev seen : List ℤ
  seen = take (len + 2 - pad) (drop pad high)

  pub tail_is : take (len - pad) seen ≡ drop pad (take len high)
  tail_is =
      let whole : pad + (len - pad) ≡ len = omega arith in
      let more : len - pad + 2 ≡ len + 2 - pad = omega arith in
      ap (λ n. take (len - pad) (take n (drop pad high))) (sym more)
      ∙ (fewer (len - pad) 2 (drop pad high) ∙ (sym (drop-take pad (len - pad) high)
      ∙ ap (λ n. drop pad (take n high)) whole))
    where
      fewer : (n m : ℕ) (xs : List ℤ) → take n (take (n + m) xs) ≡ take n xs
      fewer n m xs = ext_get_or (pos 0) (take n (take (n + m) xs)) (take n xs)
          (omega (arith, length-take n (take (n + m) xs), length-take (n + m) xs, length-take n xs))
          (λ k l.
          let h : k < n = omega (arith, length-take n (take (n + m) xs)) in
          get_or-take n (take (n + m) xs) k (pos 0) h
          ∙ (get_or-take (n + m) xs k (pos 0) (omega arith) ∙ sym (get_or-take n xs k (pos 0) h)))

  pub tail_short : Each1 (FitsSigned w16) (take len high) → FitsSigned w16 (get_or high len (pos 0)) →
      FitsSigned w16 (get_or high (len + 1) (pos 0)) → Each1 (FitsSigned w16) seen
  tail_short front a b = each1 (FitsSigned w16) seen (λ k l.
      let h : k < len + 2 - pad = omega (arith, length-take (len + 2 - pad) (drop pad high)) in
      subst (FitsSigned w16)
      (sym (get_or-take (len + 2 - pad) (drop pad high) k (pos 0) h ∙ get_or-drop pad high k (pos 0)))
      (⊎_elim
      (λ less.
      subst (FitsSigned w16) (get_or-take len high (pad + k) (pos 0) less)
      (Each1-get_or (FitsSigned w16) (take len high) (pad + k) (pos 0) (omega (arith, length-take len high)) front))
      (λ over. ⊎_elim
      (λ first. let e : len ≡ pad + k = omega arith in subst (λ n. FitsSigned w16 (get_or high n (pos 0))) e a)
      (λ second. let e : len + 1 ≡ pad + k = omega arith in subst (λ n. FitsSigned w16 (get_or high n (pos 0))) e b)
      (cases_lt (pad + k) (len + 1)))
      (cases_lt (pad + k) len)))

-- samples that are held quietly are whole
pub quiet_samples : (form : SampleForm) (high low : List ℤ) (n : ℕ) (limits : Limits) (w : WindowValue) →
    record { samples = held form high low n; limits = limits } ≡ w → form ≡ Quiet → w.samples ≡ take n high
quiet_samples form high low n limits w view is =
    ap (λ (v : WindowValue). v.samples) (sym view) ∙ ap (λ o. held o high low n) is

pub wide_samples : (form : SampleForm) (high low : List ℤ) (n : ℕ) (limits : Limits) (w : WindowValue) →
    record { samples = held form high low n; limits = limits } ≡ w → form ≡ Wide → w.samples ≡ take n high
wide_samples form high low n limits w view is =
    ap (λ (v : WindowValue). v.samples) (sym view) ∙ ap (λ o. held o high low n) is

pub quiet_within : {form : SampleForm} {high low : List ℤ} {n : ℕ} {limits : Limits} {w : WindowValue} →
    AreHeld form high low n limits → record { samples = held form high low n; limits = limits } ≡ w → form ≡ Quiet →
    AreWithin w.limits.peak w.samples
quiet_within {form} {high} {low} {n} {limits} {w} are view is =
    let quietly : AreHeld Quiet high low n limits = subst (λ o. AreHeld o high low n limits) is are in
    subst (λ xs. AreWithin w.limits.peak xs) (sym (quiet_samples form high low n limits w view is))
    (subst (λ (v : WindowValue). AreWithin v.limits.peak (take n high)) view quietly.within)
