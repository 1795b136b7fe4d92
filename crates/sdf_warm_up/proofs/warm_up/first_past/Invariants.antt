use Rattle.std.proofs.Common.{◌≡◌, ◌≤◌, ◌<◌, ◌-◌, ℕ}
use Rattle.sdf_graph.specs.Rates.{sum_to, rate_at}
use Rattle.sdf_warm_up.specs.declared.warm_up.TheConstants.{MAX_FIRINGS}
use Rattle.sdf_warm_up.proofs.warm_up.first_past.Given as goal

abbrev pub invariant-loop-low : goal.invariant-loop-low
invariant-loop-low l = record {
  order : l.low ≤ l.high;
  most : l.high ≤ MAX_FIRINGS;
  before : (i : ℕ) → i < l.low → sum_to (rate_at l.rates) i < l.amount;
  after : (i : ℕ) → i ≡ l.high → i < MAX_FIRINGS → l.amount ≤ sum_to (rate_at l.rates) i;
}

abbrev pub decreases-loop-low : goal.decreases-loop-low
decreases-loop-low l = l.high - l.low
