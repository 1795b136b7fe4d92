use Rattle.std.proofs.Common.{◌≡◌, ℕ, ◌<◌, get_or}
use Rattle.sdf_times.specs.Times.{IsGreatest}
use Rattle.sdf_times.proofs.times.greatest.Given as goal

abbrev pub invariant-loop-time : goal.invariant-loop-time
invariant-loop-time l = IsGreatest (λ u. (j : ℕ) × (j < l.time-index) × (get_or l.times j 0 ≡ u)) l.most
