-- The sizes of the pieces and parts into which a sound is cut in time, in periods.
use Rattle.std.specs.Prelude.{◌≡◌, ℕ, ◌*◌, ◌/◌, ◌-◌, ◌^◌, Option, None, Some, max, min}
use Rattle.std.specs.Int.{div_ceil}
use Rattle.sdf_warm_up.specs.Warm.{IsLeast}
use Rattle.sdf_parallel.specs.Sizes.{IsPartSize}
use Rattle.sdf_process.specs.declared.part_sizes.Partition.{Partition}
use Rattle.sdf_process.specs.declared.part_sizes.TheConstants.{FIRST_SHARE, PART, PIECE}
use Rattle.sdf_process.specs.declared.io_rates.IoRates.{IoRates}

-- the most periods that read at most this many frames and make at most this many, but at least one
abbrev pub periods_in : ℕ → IoRates → ℕ
periods_in frames x = max 1 (frames / max x.taken x.made)

-- The periods of a piece. On one thread: the periods in PIECE frames. In parts: for each worker the periods in `share`
-- frames, or eight warm-ups if these are longer. (At most the greatest number of 32 bits.)
abbrev pub IsPieceSize : ℕ → IoRates → Option Partition → ℕ → Type 0
IsPieceSize share x None periods = periods ≡ periods_in PIECE x
IsPieceSize share x (Some c) periods =
    (each : ℕ) × IsLeast (IsPartSize (periods_in share x) 1 c.warm) each ×
    (periods ≡ max 1 (min (each * c.parts) (2 ^ 32 - 1)))

-- The fewest periods of a part if this many are run at once: an equal share of them for each worker, or the periods in
-- PART frames if these are fewer, but at least eight warm-ups.
abbrev pub IsLeastPart : IoRates → Partition → ℕ → ℕ → Type 0
IsLeastPart x c periods size =
    IsLeast (IsPartSize (min (div_ceil periods (max 1 c.parts)) (periods_in PART x)) 1 c.warm) size

-- the periods that make this many frames (at most the greatest number of 32 bits)
abbrev pub periods_making : ℕ → IoRates → ℕ
periods_making frames x = min (div_ceil frames x.made) (2 ^ 32 - 1)

-- The most parts that are run at once if this many frames are made: one for each worker, or the parts of the first
-- piece, or of all periods, if these are fewer. (A last period that is not whole is run alone, so there may be one part
-- fewer.)
abbrev pub AreAtOnce : IoRates → Partition → ℕ → ℕ → Type 0
AreAtOnce x c frames parts =
    (piece : ℕ) × IsPieceSize FIRST_SHARE x (Some c) piece × (size : ℕ) ×
    IsLeastPart x c (min piece (periods_making frames x)) size ×
    (parts ≡ min (div_ceil (min piece (periods_making frames x)) size) (max 1 c.parts))
