use Rattle.std.proofs.Common.{◌≡◌, ℕ, ◌*◌, ◌<◌, ◌≤◌, length, get_or}
use Rattle.std.specs.Prelude.{slice_index}
use Rattle.sdf_limits.specs.declared.TheConstants.{MAX_COST}
use Rattle.sdf_graph.specs.Rates.{sum_to}
use Rattle.sdf_prec.specs.Tables.{cell}
use Rattle.sdf_times.specs.Times.{cost_in}
use Rattle.sdf_times.proofs.loads.loads.Given as goal

abbrev pub invariant-loop-i : goal.invariant-loop-i
invariant-loop-i l = record {
  all : length l.loads.items ≡ l.m;
  each : (j : ℕ) → j < l.m → get_or l.loads.items j 0 ≡
      sum_to (λ i. cost_in (slice_index l.costs) (cell l.table.rows i j)) l.i;
  small : (j : ℕ) → get_or l.loads.items j 0 ≤ MAX_COST * l.i;
}
