use Rattle.std.proofs.Common.{◌≡◌, ◌<◌, ℕ, get_or}
use Rattle.sdf_actor.specs.Nets.{wire}
use Rattle.sdf_rings.proofs.seat.batch.has_no_self_loop.Given as goal

abbrev pub invariant-loop-i : goal.invariant-loop-i
invariant-loop-i g l = record {
  apart : (j : ℕ) → j < l.i → (wire l.net (get_or l.channels j 0)).from.0 ≡ l.actor → ⊥;
}
