use Rattle.std.proofs.Common.{◌^◌, ◌<◌}
use Rattle.std.specs.Prelude.{slice_index}
use Rattle.sdf_times.specs.Checks.{IsPassed}
use Rattle.sdf_times.proofs.columns.scan_column.Given as goal

abbrev pub invariant-loop-i : goal.invariant-loop-i
invariant-loop-i l = record {
  small : l.until < 2 ^ 97;
  passed : IsPassed l.table.rows (slice_index l.costs) l.starts l.q l.column l.add l.from l.i l.until;
}
