use Rattle.std.proofs.Common.{◌≡◌, ℕ, ◌<◌, length, get_or, None}
use Rattle.sdf_actor.specs.declared.node.Node.TheVariants.{Sink}
use Rattle.sdf_actor.specs.ResumedSteps.{resumed_steps}
use Rattle.sdf_actor.specs.NetStates.{IsResumedNode}
use Rattle.sdf_actor.proofs.resumed_nets.resumed_nodes.Given as goal

abbrev pub invariant-loop-a : goal.invariant-loop-a
invariant-loop-a g l = record {
  all : length l.begun.items ≡ l.a;
  each : (b : ℕ) → b < l.a → IsResumedNode g.A.Actor.steps (resumed_steps g.A.Actor) (get_or l.states b None)
      (get_or l.nodes b (Sink 0 0)) (get_or l.begun.items b (Sink 0 0));
}
