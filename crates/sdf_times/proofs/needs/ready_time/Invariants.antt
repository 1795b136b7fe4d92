use Rattle.std.specs.Prelude.{slice_index}
use Rattle.sdf_graph.specs.Rates.{rates}
use Rattle.sdf_times.specs.Times.{IsGreatest, start_in}
use Rattle.sdf_times.specs.Walks.{IsAmongEnd}
use Rattle.sdf_times.proofs.needs.ready_time.Given as goal

abbrev pub invariant-loop-number : goal.invariant-loop-number
invariant-loop-number l = IsGreatest (IsAmongEnd (rates l.graph) (slice_index l.costs) (start_in l.starts) l.firing
    l.number-items l.number-index) l.time
