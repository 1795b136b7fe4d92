use Rattle.std.proofs.Common.{◌≡◌, ◌≤◌}
use Rattle.sdf_actor.specs.Wires.{lists}
use Rattle.sdf_rings.specs.RingNodes.{IsRingNode, CanFire, HasMoved}
use Rattle.sdf_rings.proofs.seat.spin_until_ready.Given as goal

abbrev pub invariant-loop-tries : goal.invariant-loop-tries
invariant-loop-tries g l = record {
  ring_node : IsRingNode g.A.Actor.steps l.context.net.now (lists l.context.inputs.now) l.ring_node;
  moved : HasMoved g.A.Actor.steps l.context.net.now l.initial.ring_node l.ring_node;
  done : l.ring_node.done ≡ l.initial.ring_node.done;
  tries : l.tries ≤ l.initial.tries;
  at_once : CanFire g.A.Actor.steps l.context.net.now l.initial.ring_node → l.tries ≡ l.initial.tries;
}

abbrev pub decreases-loop-tries : goal.decreases-loop-tries
decreases-loop-tries g l = l.tries
