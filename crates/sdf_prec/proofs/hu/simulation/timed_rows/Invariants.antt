use Rattle.std.proofs.Common.{◌≡◌, ◌-◌, ◌+◌, length, sum}
use Rattle.sdf_prec.specs.Simulations.{IsDoneAfter, IsQueued}
use Rattle.sdf_prec.proofs.hu.simulation.timed_rows.Given as goal

abbrev pub invariant-loop-next : goal.invariant-loop-next
invariant-loop-next l = record {
  graph : l.state.counts.graph ≡ l.graph;
  columns : length l.state.until ≡ l.width;
  wide : l.rows.width ≡ l.width;
  done : IsDoneAfter l.inputs l.state l.rows.rows;
  queue : IsQueued l.inputs l.state;
}

abbrev pub decreases-loop-next : goal.decreases-loop-next
decreases-loop-next l = sum l.inputs.firings.now + 1 - sum l.state.counts.fired
