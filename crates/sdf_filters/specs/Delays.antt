-- The delay of a converter.
use Rattle.std.specs.Prelude.{ℕ, zero, suc, ◌+◌, ◌-◌, ◌*◌, ◌/◌, max, List, length, slice_get, Option, Some, None}
use Rattle.sdf_filters.specs.declared.stage.StageFile.{StageFile}

-- The delay of a stage's filter: half the steps from its first tap to its last, at its own rate. It is in thousandths
-- of a frame at the rate `to`, rounded down.
abbrev pub stage_delay : ℕ → StageFile → ℕ
stage_delay to f = (f.taps - 1) * 500 * to / max f.rate 1

abbrev pub delay_at : ℕ → Option StageFile → ℕ
delay_at to None = 0
delay_at to (Some f) = stage_delay to f

-- the delay of the first n stages
unfoldable pub delay_before : ℕ → List StageFile → ℕ → ℕ
delay_before to files zero = 0
delay_before to files (suc n) = delay_before to files n + delay_at to (slice_get files n)

-- the delay of all stages in frames at the rate `to`, rounded to the nearest
abbrev pub delay : ℕ → List StageFile → ℕ
delay to files = (delay_before to files (length files) + 500) / 1000
