use Rattle.std.proofs.Common.{◌≡◌, ◌<◌, ℕ, length, get_or}
use Rattle.sdf_actor.specs.Nets.{node}
use Rattle.sdf_node.specs.Kept.{kept_state}
use Rattle.sdf_rings.specs.Rests.{ring_node_of}
use Rattle.sdf_rings.proofs.rings.leave.states_of.Given as goal

abbrev pub invariant-loop-a : goal.invariant-loop-a
invariant-loop-a g l = record {
  all : length l.states.items ≡ l.a;
  each : (b : ℕ) (z : _) (e : _) (d : _) → b < l.a →
      get_or l.states.items b z ≡ kept_state (node l.net b) (ring_node_of l.net l.seats l.places e d b).state;
}
