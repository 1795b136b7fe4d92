use Rattle.std.proofs.Common.{◌≡◌, ◌<◌, ℕ, [], vec_len}
use Rattle.sdf_queues.specs.Lists.{list, capacity}
use Rattle.sdf_queues.proofs.outputs.renew_outputs.Given as goal

abbrev pub invariant-loop-e : goal.invariant-loop-e
invariant-loop-e g l = record {
  len : vec_len l.outputs ≡ l.e;
  each : (e : ℕ) → e < l.e → (list l.outputs.items e ≡ []) × (capacity l.outputs.items e ≡ l.room);
}
