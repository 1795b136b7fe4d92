use Rattle.std.proofs.Common.{◌≡◌, map, take}
use Rattle.sdf_actor.specs.Wires.{lists}
use Rattle.sdf_queues.proofs.queue.held.Given as goal

abbrev pub invariant-loop-queue : goal.invariant-loop-queue
invariant-loop-queue g l = lists l.held.items ≡ map (λ q. q.samples) (take l.queue-index l.queues)
