use Rattle.std.proofs.Common.{◌≡◌, ◌<◌, ◌*◌, ℕ, length, get_or}
use Rattle.sdf_prec.proofs.hu.weights_of.Given as goal

abbrev pub invariant-loop-actor : goal.invariant-loop-actor
invariant-loop-actor l = record {
  all : length l.weights.items ≡ l.actor;
  each : (a : ℕ) → a < l.actor → get_or l.weights.items a 0 ≡ get_or l.firings a 0 * get_or l.costs a 0;
}
