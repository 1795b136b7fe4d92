-- The delay of one stage more.
use Rattle.std.proofs.Common.{◌≡◌, ℕ, suc, ◌+◌, List, slice_get, Some, refl, ap, arith}
use Rattle.sdf_filters.specs.declared.stage.StageFile.{StageFile}
use Rattle.sdf_filters.specs.Delays.{stage_delay, delay_at, delay_before}

pub delay_before-zero : (to : ℕ) (files : List StageFile) → 0 ≡ delay_before to files 0
unfolding delay_before
delay_before-zero to files = refl

pub delay_before_more : (to : ℕ) (files : List StageFile) (n : ℕ) (f : StageFile) → slice_get files n ≡ Some f →
    delay_before to files (n + 1) ≡ delay_before to files n + stage_delay to f
unfolding delay_before
delay_before_more to files n f got =
    let e : n + 1 ≡ suc n = omega arith in rw e (ap (λ o. delay_before to files n + delay_at to o) got)
