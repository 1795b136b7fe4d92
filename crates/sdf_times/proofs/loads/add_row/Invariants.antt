use Rattle.std.proofs.Common.{◌≡◌, ℕ, ◌+◌, ◌<◌, ◌≤◌, length, get_or}
use Rattle.std.specs.Prelude.{slice_index}
use Rattle.sdf_limits.specs.declared.TheConstants.{MAX_COST}
use Rattle.sdf_prec.specs.Tables.{cell}
use Rattle.sdf_times.specs.Times.{cost_in}
use Rattle.sdf_times.proofs.loads.add_row.Given as goal

abbrev pub invariant-loop-column : goal.invariant-loop-column
invariant-loop-column l = record {
  all : length l.loads.items ≡ length l.initial.loads.items;
  passed : (j : ℕ) → j < l.column → get_or l.loads.items j 0 ≡
      get_or l.initial.loads.items j 0 + cost_in (slice_index l.costs) (cell l.table.rows l.i j);
  left : (j : ℕ) → l.column ≤ j → get_or l.loads.items j 0 ≡ get_or l.initial.loads.items j 0;
  small : (j : ℕ) → get_or l.loads.items j 0 ≤ get_or l.initial.loads.items j 0 + MAX_COST;
}
