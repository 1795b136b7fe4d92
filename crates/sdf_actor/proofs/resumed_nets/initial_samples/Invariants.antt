use Rattle.std.proofs.Common.{◌≡◌, map, take}
use Rattle.sdf_actor.specs.Wires.{lists, wires}
use Rattle.sdf_actor.proofs.resumed_nets.initial_samples.Given as goal

abbrev pub invariant-loop-link : goal.invariant-loop-link
invariant-loop-link g l = lists l.held.items ≡ map (λ w. w.initial) (take l.link-index (wires l.links))
