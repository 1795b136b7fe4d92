use Rattle.std.proofs.Common.{ℕ, ◌<◌}
use Rattle.std.specs.Prelude.{slice_index}
use Rattle.sdf_times.specs.Checks.{IsColumnInTurn}
use Rattle.sdf_times.proofs.schedules.columns_in_turn.Given as goal

abbrev pub invariant-loop-column : goal.invariant-loop-column
invariant-loop-column l = (j : ℕ) → j < l.column → IsColumnInTurn l.table.rows (slice_index l.costs) l.starts l.t l.q j
