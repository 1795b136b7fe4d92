use Rattle.std.proofs.Common.{◌≡◌, length}
use Rattle.std.specs.Prelude.{slice_index}
use Rattle.sdf_graph.specs.Rates.{rates}
use Rattle.sdf_times.specs.Walks.{IsPast, IsWalk}
use Rattle.sdf_times.proofs.walk.fire_row.Given as goal

abbrev pub invariant-loop-column : goal.invariant-loop-column
invariant-loop-column l = record {
  walk : IsWalk (rates l.graph) (slice_index l.costs) l.table.rows (IsPast l.i l.column) l.starts.items l.until.items;
  wide : length l.until.items ≡ length l.initial.until.items;
}
