use Rattle.std.proofs.Common.{◌≡◌, ◌≤◌, ◌*◌}
use Rattle.sdf_graph.specs.Moved.{moves}
use Rattle.sdf_graph.specs.Rates.{sum_to}
use Rattle.sdf_one.proofs.cycles.samples_moved.Given as goal

abbrev pub invariant-loop-i : goal.invariant-loop-i
invariant-loop-i l = record {
  value : l.total ≡ sum_to (moves l.end l.channel) l.i;
  few : l.total ≤ 4294967295 * l.i;
}
