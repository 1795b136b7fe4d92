-- The number of firings of tables.
use Rattle.std.specs.Prelude.{◌≡◌, ℕ, ◌*◌, List, length, slice_index, sum}
use Rattle.sdf_graph.specs.Rates.{Rates}
use Rattle.sdf_graph.specs.Sequences.{repeated}
use Rattle.sdf_prec.specs.Blocks.{block}
use Rattle.sdf_prec.specs.Tables.{TableValue, IsTable}

-- in the row order of a table, b blocks of j periods have b * (j * sum q) firings
abbrev pub TablesCount : Type 0
TablesCount =
    (r : Rates) (q : List ℕ) (j width : ℕ) (t : TableValue) (b : ℕ) → length q ≡ r.actors →
    IsTable r (slice_index (block j q)) width t → length (repeated b t.order) ≡ b * (j * sum q)
