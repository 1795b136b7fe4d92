use Rattle.std.proofs.Common.{◌≡◌, ℕ, ◌+◌, ◌≤◌, ◌<◌, length, sum, take, get_or}
use Rattle.sdf_times.proofs.search.events.Events.new.Given as goal

abbrev pub invariant-loop-count : goal.invariant-loop-count
invariant-loop-count l = record {
  total : l.total ≡ sum (take l.count-index l.fn.firings.items);
  every : length l.offsets.items ≡ l.count-index;
  within : (a : ℕ) → a < l.count-index → get_or l.offsets.items a 0 + get_or l.fn.firings.items a 0 ≤ l.total;
}
