-- Tables that workers follow, block after block.
use Rattle.std.specs.Prelude.{ℕ, ◌≤◌, List, slice_index}
use Rattle.sdf_graph.specs.Rates.{Rates}
use Rattle.sdf_sched.specs.Period.{IsPeriodOf}
use Rattle.sdf_prec.specs.Blocks.{block, IsWorkers, IsShort}
use Rattle.sdf_prec.specs.Tables.{TableValue, IsTable}
use Rattle.sdf_prec.specs.declared.block_table.BlockTable.{BlockTable}

-- a table of some width, for blocks of j periods; in each period every actor a fires q a times. Only the limit on the
-- firings of a block limits j
pub record IsTableOf (r : Rates) (q : List ℕ) (j : ℕ) (t : TableValue) : Type 0 where
  pub width : ℕ
  pub some : 1 ≤ j
  pub workers : IsWorkers width
  pub short : IsShort j q
  pub table : IsTable r (slice_index (block j q)) width t

-- a schedule of the rates, and a table for blocks of `blocking` periods
pub record IsBlockTableOf (r : Rates) (t : BlockTable) : Type 0 where
  pub period : IsPeriodOf r t.period
  pub table : IsTableOf r t.period.repetitions t.blocking t.table
