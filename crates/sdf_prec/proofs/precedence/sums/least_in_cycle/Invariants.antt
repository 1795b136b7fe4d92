use Rattle.std.proofs.Common.{◌≡◌, ◌≤◌, ◌<◌, ◌-◌, ℕ, length}
use Rattle.sdf_graph.specs.Rates.{sum_to, rate_at}
use Rattle.sdf_prec.proofs.precedence.sums.least_in_cycle.Given as goal

abbrev pub invariant-loop-moved : goal.invariant-loop-moved
invariant-loop-moved l = record {
  is : l.moved ≡ sum_to (rate_at l.rates) l.firings;
  within : l.firings ≤ length l.rates;
  below : (j : ℕ) → j < l.firings → sum_to (rate_at l.rates) j < l.amount;
}

abbrev pub decreases-loop-moved : goal.decreases-loop-moved
decreases-loop-moved l = length l.rates - l.firings
