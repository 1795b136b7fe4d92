-- Long blocks, and their tables with homes from weights.
use Rattle.std.specs.Prelude.{◌≡◌, ℕ, ◌*◌, ◌<◌, ◌≤◌, ◌⊎◌, List, slice_index, Option}
use Rattle.sdf_graph.specs.Rates.{Rates}
use Rattle.sdf_prec.specs.declared.long.TheConstants.{MAX_MOVED}
use Rattle.sdf_prec.specs.declared.fault.PrecFault.{PrecFault}
use Rattle.sdf_prec.specs.declared.fault.PrecFault.TheVariants.{OutOfMemory, BlockingFactor, WorkerCount, BlockTooLong}
use Rattle.sdf_prec.specs.Blocks.{block, IsWorkers, IsShort}
use Rattle.sdf_prec.specs.Tables.{TableValue, IsTable, IsHomed}
use Rattle.sdf_prec.specs.ByHomes.{AreRunsByHomes}
use Rattle.sdf_prec.specs.Spread.{AreSpread}

-- the samples that channel c moves in a period with the repetition vector q
abbrev pub moved : Rates → List ℕ → ℕ → ℕ
moved r q c = r.produced c (slice_index q (r.source c))

-- j periods with the repetition vector q keep within MAX_MOVED samples on each channel and the firings of a block
pub record IsWithinLong (r : Rates) (q : List ℕ) (j : ℕ) : Type 0 where
  pub moves : (c : ℕ) → c < r.channels → j * moved r q c ≤ MAX_MOVED
  pub short : IsShort j q

-- the greatest number of periods within these limits, or 1 if a single period passes them
pub record IsLongest (r : Rates) (q : List ℕ) (j : ℕ) : Type 0 where
  pub some : 1 ≤ j
  pub within : (j ≡ 1) ⊎ IsWithinLong r q j
  pub greatest : (k : ℕ) → IsWithinLong r q k → k ≤ j

-- j periods are a long block for m workers
pub record IsLongSize (j m : ℕ) (reps : List ℕ) : Type 0 where
  pub some : 1 ≤ j
  pub workers : IsWorkers m
  pub short : IsShort j reps

-- the first reason why j periods are not a long block for m workers
abbrev pub IsSpreadFault : ℕ → ℕ → List ℕ → PrecFault → Type 0
IsSpreadFault j m reps OutOfMemory = Unit {0}
IsSpreadFault j m reps BlockingFactor = j ≡ 0
IsSpreadFault j m reps WorkerCount = (1 ≤ j) × (IsWorkers m → ⊥)
IsSpreadFault j m reps BlockTooLong = (1 ≤ j) × IsWorkers m × (IsShort j reps → ⊥)
IsSpreadFault j m reps _ = ⊥

-- the table of j periods in runs, each actor at home with the worker of its stretch
pub record IsSpreadTable (r : Rates) (q : List ℕ) (j m : ℕ) (weights : List ℕ) (t : TableValue) : Type 0 where
  pub size : IsLongSize j m q
  pub table : IsTable r (slice_index (block j q)) m t
  pub homed : IsHomed t
  pub homes : List (Option ℕ)
  pub spread : AreSpread r weights m homes
  pub in_runs : AreRunsByHomes r (slice_index (block j q)) homes m t.rows
