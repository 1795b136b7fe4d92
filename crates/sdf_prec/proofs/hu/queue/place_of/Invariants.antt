use Rattle.std.proofs.Common.{◌≡◌, ℕ, ◌-◌, ◌≤◌, ◌<◌, ◌⊎◌, length}
use Rattle.sdf_prec.specs.Numbers.{number}
use Rattle.sdf_prec.specs.Tables.{firing}
use Rattle.sdf_prec.specs.Trying.{IsTriedBefore}
use Rattle.sdf_prec.proofs.hu.queue.place_of.Given as goal

abbrev pub invariant-loop-low : goal.invariant-loop-low
invariant-loop-low l = record {
  rising : l.low ≤ l.high;
  within : l.high ≤ length l.queue;
  before : (p : ℕ) → p < l.low → IsTriedBefore (number l.levels) (firing l.queue p) l.ready;
  after : l.high < length l.queue →
      IsTriedBefore (number l.levels) l.ready (firing l.queue l.high) ⊎ ((firing l.queue l.high).actor ≡ l.ready.actor);
}

abbrev pub decreases-loop-low : goal.decreases-loop-low
decreases-loop-low l = l.high - l.low
