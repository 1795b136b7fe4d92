-- Stages of wide taps, one after another.
use Rattle.std.proofs.Common.{◌≡◌, ℕ, ◌+◌, ◌*◌, ◌/◌, ◌%◌, ◌-◌, ◌<◌, ◌≤◌, List, [], ◌∷◌, ◌++◌, length}
use Rattle.std.proofs.Common.{sym, ap, ◌∙◌, subst, arith, div-add-mod'}
use Rattle.std.specs.Prelude.{slice_get, Some}
use Rattle.std.proofs.Math.Nat.{mod-lt}
use Rattle.std.proofs.lemmas.List.{length_push}
use Rattle.sdf_filters.specs.declared.stage.Stage.{Stage}
use Rattle.sdf_filters.specs.declared.stage.WideStage.{WideStage}
use Rattle.sdf_filters.specs.declared.stage.StageFile.{StageFile}
use Rattle.sdf_filters.specs.WideConverters.{IsWideStage, AreMade, none, more}

-- one stage more
pub made_more : (stages : List Stage) (n late later count front : ℕ) (ws ws' : List WideStage)
    (fs fs' fs'' : List StageFile) (s : Stage) (w : WideStage) (high low : StageFile) → length ws ≡ n →
    AreMade stages n ws fs late →
    slice_get stages n ≡ Some s → IsWideStage (n + 1) s w high low → w.taps ≡ count → w.zeros ≡ front →
    later * s.down ≡ late * s.up + count / 2 + front → ws' ≡ ws ++ w ∷ [] → fs' ≡ fs ++ high ∷ [] →
    fs'' ≡ fs' ++ low ∷ [] → (length ws' ≡ n + 1) × AreMade stages (n + 1) ws' fs'' later
made_more stages n late later count front ws ws' fs fs' fs'' s w high low long made at is taps_are zeros_are whole e
    e' e'' = (
      ap length e ∙ (length_push ws w ∙ ap (λ m. m + 1) long),
      subst (λ (v : List WideStage). AreMade stages (n + 1) v fs'' later) (sym e)
          (subst (λ (v : List StageFile). AreMade stages (n + 1) (ws ++ w ∷ []) v later)
          (sym (e'' ∙ ap (λ (v : List StageFile). v ++ low ∷ []) e')) all),
    )
  where
    steps : later * s.down ≡ late * s.up + w.taps / 2 + w.zeros
    steps = subst (λ (t : ℕ). later * s.down ≡ late * s.up + t / 2 + w.zeros) (sym taps_are)
        (subst (λ (z : ℕ). later * s.down ≡ late * s.up + count / 2 + z) (sym zeros_are) whole)

    all : AreMade stages (n + 1) (ws ++ w ∷ []) ((fs ++ high ∷ []) ++ low ∷ []) later
    all = more n ws fs late made s at w high low is later steps

-- a quotient rounded up
pub ceiling : (n d : ℕ) → 1 ≤ d → n ≤ (n + (d - 1)) / d * d
ceiling n d some =
    let split : (n + (d - 1)) / d * d + (n + (d - 1)) % d ≡ n + (d - 1) = div-add-mod' (n + (d - 1)) d in
    let less : (n + (d - 1)) % d < d = mod-lt (n + (d - 1)) (omega arith) in
    omega (arith, split, less)

pub ceiling_more : (n d k : ℕ) → 1 ≤ d → n ≤ ((n + (d - 1)) / d + k) * d
ceiling_more n d k some =
    let h : n ≤ (n + (d - 1)) / d * d = ceiling n d some in
    let e : ((n + (d - 1)) / d + k) * d ≡ (n + (d - 1)) / d * d + k * d = omega arith in
    omega (arith, h, e)

pub ceiling_most : (n d k : ℕ) → ((n + (d - 1)) / d + k) * d ≤ n + (d - 1) + k * d
ceiling_most n d k =
    let split : (n + (d - 1)) / d * d + (n + (d - 1)) % d ≡ n + (d - 1) = div-add-mod' (n + (d - 1)) d in
    let e : ((n + (d - 1)) / d + k) * d ≡ (n + (d - 1)) / d * d + k * d = omega arith in
    omega (arith, split, e)

-- no stage yet
pub made_none : (stages : List Stage) (ws : List WideStage) (fs : List StageFile) → ws ≡ [] → fs ≡ [] →
    (length ws ≡ 0) × AreMade stages 0 ws fs 0
made_none stages ws fs e e' = (
  ap length e,
  subst (λ (v : List WideStage). AreMade stages 0 v fs 0) (sym e)
      (subst (λ (v : List StageFile). AreMade stages 0 [] v 0) (sym e') none),
)
