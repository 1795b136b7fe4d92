use Rattle.std.proofs.Common.{◌≡◌, ◌≤◌}
use Rattle.std.specs.Prelude.{slice_index}
use Rattle.sdf_limits.specs.declared.TheConstants.{MAX_COST}
use Rattle.sdf_prec.specs.Tables.{cell_of}
use Rattle.sdf_times.specs.Times.{cost_in}
use Rattle.sdf_times.specs.ByRows.{greatest_to}
use Rattle.sdf_times.proofs.rows.greatest_cost.Given as goal

abbrev pub invariant-loop-cell : goal.invariant-loop-cell
invariant-loop-cell l = record {
  is : l.most ≡ greatest_to (λ j. cost_in (slice_index l.costs) (cell_of l.cells j)) l.cell-index;
  small : l.most ≤ MAX_COST;
}
