-- A table of a size is one of the block's.
use Rattle.std.proofs.Common.{ℕ, List, slice_index}
use Rattle.sdf_graph.specs.Rates.{Rates}
use Rattle.sdf_prec.specs.Accepting.{IsSize}
use Rattle.sdf_prec.specs.Blocks.{block}
use Rattle.sdf_prec.specs.Tables.{TableValue, IsTable}
use Rattle.sdf_prec.specs.BlockTables.{IsTableOf}

pub sized : (r : Rates) (q : List ℕ) (j m : ℕ) (t : TableValue) → IsSize j m q →
    IsTable r (slice_index (block j q)) m t →
    IsTableOf r q j t
sized r q j m t size table = record {
  width = m;
  some = size.blocking.0;
  workers = size.workers;
  short = size.short;
  table = table;
}
