-- Where the parts of a run begin and end.
use Rattle.std.specs.Prelude.{◌≡◌, ℕ, ◌+◌, ◌-◌, ◌/◌, ◌%◌, ◌<◌, min, max, List, length, slice_index}
use Rattle.std.specs.Int.{div_ceil}
use Rattle.sdf_parallel.specs.declared.part.Split.{Split}

-- The periods of the part that begins at one: half of an equal share of those that are left for each worker, in whole
-- stretches, but at least the fewest of a part, or all that are left if these are fewer. So the last parts are short,
-- and the workers end together. (Guided self-scheduling, with half a share: Polychronopoulos and Kuck, 1987.)
abbrev pub part_length : {A S T : Type 0} → Split A T S → ℕ → ℕ
part_length w from =
    let half = div_ceil (w.periods - from) (max 1 w.workers) / 2 in
    min (max (half - half % w.stretch) w.least) (w.periods - from)

-- the period at which each part begins, and the end of the last one
pub record AreBounds {A S T : Type 0} (w : Split A T S) (bounds : List ℕ) : Type 0 where
  pub some : 1 < length bounds
  pub first : slice_index bounds 0 ≡ 0
  pub next : (i : ℕ) → i + 1 < length bounds →
      slice_index bounds (i + 1) ≡ slice_index bounds i + part_length w (slice_index bounds i)
  pub left : (i : ℕ) → 0 < i → i + 1 < length bounds → slice_index bounds i < w.periods
  pub last : slice_index bounds (length bounds - 1) ≡ w.periods
