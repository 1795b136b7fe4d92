-- Rows that make a table, and the reasons why others do not.
use Rattle.std.specs.Prelude.{◌≡◌, ℕ, ◌⊎◌, List, length, slice_index, Option}
use Rattle.sdf_graph.specs.Rates.{Rates}
use Rattle.sdf_prec.specs.declared.firing.Firing.{Firing}
use Rattle.sdf_prec.specs.declared.fault.PrecFault.{PrecFault}
use Rattle.sdf_prec.specs.Blocks.{block, IsBlocking, IsWorkers, IsShort, IsSizeFault}
use Rattle.sdf_prec.specs.Tables.{IsValid, TableValue, IsTable}
use Rattle.sdf_prec.specs.Tidied.{tidy_rows}
use Rattle.sdf_prec.specs.Refusals.{AreNarrow, StandsFirst}

-- j periods are a block for m workers
pub record IsSize (j m : ℕ) (reps : List ℕ) : Type 0 where
  pub blocking : IsBlocking j
  pub workers : IsWorkers m
  pub short : IsShort j reps

-- the rows are a valid table within the width, and t is this table
pub record IsAccepted (r : Rates) (n : ℕ → ℕ) (width : ℕ) (rows : List (List (Option Firing)))
    (t : TableValue) : Type 0 where
  pub narrow : AreNarrow width rows (length rows)
  pub valid : IsValid r n rows
  pub kept : t.rows ≡ tidy_rows width rows
  pub table : IsTable r n width t

-- why there is no table: its size, or otherwise the first test that the rows fail
abbrev pub IsTableFault : Rates → ℕ → ℕ → List ℕ → List (List (Option Firing)) → PrecFault → Type 0
IsTableFault r j m reps rows e = IsSizeFault j m reps e
    ⊎ (IsSize j m reps × StandsFirst r (slice_index (block j reps)) m rows e)
