use Rattle.std.proofs.Common.{◌≡◌, ◌⊎◌, ℕ, ◌≤◌, ◌<◌, get_or}
use Rattle.sdf_profile.proofs.costs.least.Given as goal

abbrev pub invariant-loop-time : goal.invariant-loop-time
invariant-loop-time l = record {
  below : (i : ℕ) → i < l.time-index → 0 < get_or l.times i 0 → l.least ≤ get_or l.times i 0;
  reached : ((l.least ≡ 0) × ((i : ℕ) → i < l.time-index → get_or l.times i 0 ≡ 0))
      ⊎ ((0 < l.least) × ((i : ℕ) × (i < l.time-index) × (get_or l.times i 0 ≡ l.least)));
}
