use Rattle.std.proofs.Common.{◌≡◌, ℕ, ◌<◌, [], None, length, get_or}
use Rattle.sdf_actor.specs.declared.node.Node.TheVariants.{Sink}
use Rattle.sdf_actor.specs.NetStates.{state_left}
use Rattle.sdf_actor.proofs.resumed_nets.first_states.Given as goal

abbrev pub invariant-loop-node : goal.invariant-loop-node
invariant-loop-node g l = record {
  all : length l.states.items ≡ l.node-index;
  each : (a : ℕ) → a < l.node-index →
      get_or l.states.items a None ≡ state_left g.A.Actor.steps (get_or l.nodes a (Sink 0 0)) [];
}
