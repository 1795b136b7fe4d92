use Rattle.std.proofs.Common.{◌≡◌, ◌+◌, ◌-◌, ◌^◌, ◌<◌, ◌≤◌}
use Rattle.sdf_graph.specs.Rates.{sum_to}
use Rattle.sdf_graph.specs.Moved.{moves}
use Rattle.sdf_times.proofs.links.advance.Given as goal

abbrev pub invariant-loop-samples : goal.invariant-loop-samples
invariant-loop-samples l = record {
  samples : l.samples ≡ l.lead + sum_to (moves l.end l.channel) l.firings;
  below : 0 < l.firings → l.lead + sum_to (moves l.end l.channel) (l.firings - 1) < l.wanted;
  within : l.firings ≤ l.most;
  early : l.samples < 2 ^ 51;
}

abbrev pub decreases-loop-samples : goal.decreases-loop-samples
decreases-loop-samples l = l.most - l.firings
