-- One coefficient file more.
use Rattle.std.proofs.Common.{◌≡◌, ℕ, suc, ◌+◌, ◌/◌, ◌<◌, ◌^◌, ◌⊎◌, inl, inr, List, [], ◌∷◌, ◌++◌, length, Some}
use Rattle.std.proofs.Common.{slice_get}
use Rattle.std.proofs.Common.{refl, sym, ap, subst, ◌∙◌, arith}
use Rattle.std.proofs.lemmas.Bool.{cases_eq}
use Rattle.std.proofs.lemmas.List.{get_or_push, get_or_append_left, length_push}
use Rattle.std.proofs.lemmas.Option.{slice_get_read, slice_get-get_or}
use Rattle.sdf_filters.specs.declared.stage.Stage.{Stage}
use Rattle.sdf_filters.specs.declared.filter_spec.FilterSpec.{FilterSpec}
use Rattle.sdf_filters.specs.declared.stage.StageFile.{StageFile}
use Rattle.sdf_filters.specs.declared.fault.FilterFault.{FilterFault}
use Rattle.sdf_filters.specs.declared.fault.FilterFault.TheVariants.{OutOfMemory}
use Rattle.sdf_filters.specs.FilterSpecs.{IsFault}
use Rattle.sdf_filters.specs.Converters.{put, rate_at, stage_spec, IsStageFile, IsFileOf, AreFilesTo, IsStageFault}
use Rattle.sdf_filters.specs.Converters.{IsStagesFault}

pub no_files : (from pass attenuation : ℕ) (stages : List Stage) (files : List StageFile) → length files ≡ 0 →
    (length files ≡ 0) × ((from ≡ rate_at from stages 0) × AreFilesTo from pass attenuation stages files 0)
unfolding rate_at
no_files from pass attenuation stages files none = (none, (refl, λ k below. absurd (omega arith)))

rate_behind : (from : ℕ) (stages : List Stage) (n : ℕ) →
    rate_at from stages (n + 1) ≡ put (rate_at from stages n) (slice_get stages n)
unfolding rate_at
rate_behind from stages n = let e : n + 1 ≡ suc n = omega arith in ap (rate_at from stages) e

-- what stands before the end stays
same_before : (xs : List StageFile) (f : StageFile) (k : ℕ) → k < length xs →
    slice_get (xs ++ f ∷ []) k ≡ slice_get xs k
same_before xs f k below =
    let long : length (xs ++ f ∷ []) ≡ length xs + 1 = length_push xs f in
    slice_get-get_or (xs ++ f ∷ []) k f (omega (arith, long))
    ∙ (ap Some (get_or_append_left xs (f ∷ []) f k below) ∙ sym (slice_get-get_or xs k f below))

pub file_added : (from pass attenuation : ℕ) (stages : List Stage) (xs ys : List StageFile) (n rate : ℕ) (s : Stage)
    (w : FilterSpec) (f : StageFile) → length xs ≡ n → rate ≡ rate_at from stages n →
    AreFilesTo from pass attenuation stages xs n → slice_get stages n ≡ Some s →
    w ≡ stage_spec rate pass attenuation s → IsStageFile w (n + 1) f → ys ≡ xs ++ f ∷ [] →
    (length ys ≡ n + 1) × ((w.rate / s.down ≡ rate_at from stages (n + 1))
    × AreFilesTo from pass attenuation stages ys (n + 1))
file_added from pass attenuation stages xs ys n rate s w f long is_rate before got is_wanted file added = (
  ap length added ∙ (length_push xs f ∙ ap (λ m. m + 1) long),
  (
    ap (λ (v : FilterSpec). v.rate / s.down) is_wanted
        ∙ (ap (λ r. put r (Some s)) is_rate
        ∙ (ap (put (rate_at from stages n)) (sym got) ∙ sym (rate_behind from stages n))),
    λ k below. go k below (cases_eq k n),
  ),
)
  where
    last : slice_get (xs ++ f ∷ []) n ≡ Some f
    last = let all : length (xs ++ f ∷ []) ≡ length xs + 1 = length_push xs f in
        slice_get_read (xs ++ f ∷ []) (length (xs ++ f ∷ [])) n f refl (omega (arith, all, long))
        (sym (get_or_push xs f f n long))

    here : IsFileOf (rate_at from stages n) pass attenuation (n + 1) (slice_get stages n) (slice_get ys n)
    here =
        subst (λ o. IsFileOf (rate_at from stages n) pass attenuation (n + 1) o (slice_get ys n)) (sym got)
        (subst (λ (v : List StageFile). IsFileOf (rate_at from stages n) pass attenuation (n + 1) (Some s)
        (slice_get v n))
        (sym added)
        (subst (λ o. IsFileOf (rate_at from stages n) pass attenuation (n + 1) (Some s) o) (sym last)
        (subst (λ (v : FilterSpec). IsStageFile v (n + 1) f)
        (is_wanted ∙ ap (λ r. stage_spec r pass attenuation s) is_rate) file)))

    go : (k : ℕ) → k < n + 1 → (k ≡ n) ⊎ (k ≡ n → ⊥) →
        IsFileOf (rate_at from stages k) pass attenuation (k + 1) (slice_get stages k) (slice_get ys k)
    go k below (inl e) =
        subst (λ m. IsFileOf (rate_at from stages m) pass attenuation (m + 1) (slice_get stages m) (slice_get ys m))
        (sym e) here
    go k below (inr other) =
        subst (λ (v : List StageFile). IsFileOf (rate_at from stages k) pass attenuation (k + 1) (slice_get stages k)
        (slice_get v k)) (sym added)
        (subst (λ o. IsFileOf (rate_at from stages k) pass attenuation (k + 1) (slice_get stages k) o)
        (sym (same_before xs f k (omega (arith, long)))) (before k (omega arith)))

-- a stage has no file, and those before it have theirs
pub stage_fails : (from pass attenuation : ℕ) (stages : List Stage) (xs : List StageFile) (n rate : ℕ) (s : Stage)
    (fault : FilterFault) → rate ≡ rate_at from stages n → AreFilesTo from pass attenuation stages xs n →
    slice_get stages n ≡ Some s → IsStageFault rate pass attenuation s fault →
    IsStagesFault from pass attenuation stages fault
stage_fails from pass attenuation stages xs n rate s fault is_rate before got is = record {
  place = n;
  stage = s;
  stands = got;
  files = xs;
  before = before;
  fault_is = subst (λ r. IsStageFault r pass attenuation s fault) is_rate is;
}

-- a fault of the filter of a stage is one of the stage
pub filter_fails : (rate pass attenuation : ℕ) (s : Stage) (w : FilterSpec) (fault : FilterFault) →
    w ≡ stage_spec rate pass attenuation s → w.rate < 2 ^ 32 → IsFault w fault →
    IsStageFault rate pass attenuation s fault
filter_fails rate pass attenuation s w fault is small has =
    inr (subst (λ (v : FilterSpec). (v.rate < 2 ^ 32) × IsFault v fault) is (small, has))

-- a stage with a file may be left without memory
pub memory_fails : (rate pass attenuation number : ℕ) (s : Stage) (w : FilterSpec) (f : StageFile) →
    w ≡ stage_spec rate pass attenuation s → IsStageFile w number f →
    IsStageFault rate pass attenuation s OutOfMemory
memory_fails rate pass attenuation number s w f is file =
    filter_fails rate pass attenuation s w OutOfMemory is file.rate (inr (file.texts.are.passed, inr tt))
