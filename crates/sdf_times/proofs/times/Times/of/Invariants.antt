use Rattle.std.proofs.Common.{◌≡◌, length}
use Rattle.std.specs.Prelude.{slice_index}
use Rattle.sdf_graph.specs.Rates.{rates}
use Rattle.sdf_times.specs.Walks.{IsPast, IsWalk}
use Rattle.sdf_times.proofs.times.Times.of.Given as goal

abbrev pub invariant-loop-i : goal.invariant-loop-i
invariant-loop-i l = record {
  walk : IsWalk (rates l.graph) (slice_index l.costs) l.table.rows (IsPast l.i 0) l.starts.items l.until.items;
  wide : length l.until.items ≡ l.m;
}
