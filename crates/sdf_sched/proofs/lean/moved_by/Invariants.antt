use Rattle.std.proofs.Common.{◌≡◌, ◌≤◌, ◌*◌, take, sum_by}
use Rattle.sdf_graph.specs.Rates.{channel}
use Rattle.sdf_graph.specs.Moved.{moves}
use Rattle.sdf_sched.proofs.lean.moved_by.Given as goal

abbrev pub invariant-loop-channel : goal.invariant-loop-channel
invariant-loop-channel l = record {
  moved : l.moved ≡ sum_by (λ c. moves l.end (channel l.graph c) l.i) (take l.channel-index l.channel-items);
  small : l.moved ≤ 1024 * l.channel-index;
}
