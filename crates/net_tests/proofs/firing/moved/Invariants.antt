use Rattle.std.proofs.Common.{◌≡◌}
use Rattle.sdf_actor.specs.Steps.{sum_in, sum_out}
use Rattle.net_tests.proofs.firing.moved.Given as goal

abbrev pub invariant-loop-firing : goal.invariant-loop-firing
invariant-loop-firing g l = record {
  taken : l.taken ≡ sum_in g.A.Actor.steps l.actor 0 l.firing;
  put : l.put ≡ sum_out g.A.Actor.steps l.actor 0 l.firing;
}
