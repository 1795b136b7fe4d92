use Rattle.std.proofs.Common.{◌≡◌, ℕ, ◌+◌, ◌-◌, ◌*◌, ◌^◌, ◌<◌, ◌≤◌, get_or}
use Rattle.sdf_graph.specs.Rates.{sum_to}
use Rattle.sdf_graph.specs.Moved.{moves}
use Rattle.sdf_times.specs.Checks.{IsLastAwaited, repeating}
use Rattle.sdf_times.proofs.links.link_in_time.Given as goal

abbrev pub invariant-loop-number : goal.invariant-loop-number
invariant-loop-number l = record {
  wanted : l.wanted ≡ l.whole + sum_to (moves l.waits l.channel) l.number;
  samples : l.moved.samples ≡ l.lead + sum_to (moves l.other l.channel) l.moved.firings;
  below : 0 < l.moved.firings → l.lead + sum_to (moves l.other l.channel) (l.moved.firings - 1) < l.wanted;
  within : l.moved.firings ≤ l.most;
  early : l.moved.samples < 2 ^ 51;
  passed : (k j : ℕ) → k < l.number →
      IsLastAwaited (moves l.waits l.channel) (moves l.other l.channel) l.lead l.whole k j →
      repeating l.t l.there j + l.pause ≤ get_or l.waiting k 0 + l.t * (1 + l.back);
}
