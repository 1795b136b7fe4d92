use Rattle.std.proofs.Common.{◌≡◌, ◌≤◌, ◌*◌}
use Rattle.std.specs.Prelude.{slice_index}
use Rattle.sdf_limits.specs.declared.TheConstants.{MAX_COST}
use Rattle.sdf_graph.specs.Rates.{sum_to}
use Rattle.sdf_times.specs.ByRows.{row_time}
use Rattle.sdf_times.proofs.rows.by_rows.Given as goal

abbrev pub invariant-loop-i : goal.invariant-loop-i
invariant-loop-i l = record {
  is : l.time ≡ sum_to (row_time (slice_index l.costs) l.table.rows) l.i;
  small : l.time ≤ MAX_COST * l.i;
}
