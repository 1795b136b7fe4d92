use Rattle.std.proofs.Common.{◌≡◌, ◌<◌, ℕ, slice_index_or, vec_len}
use Rattle.sdf_actor.specs.Nets.{node}
use Rattle.sdf_rows.specs.Setup.{IsUnfired}
use Rattle.sdf_rows.proofs.setup.make_states.Given as goal

abbrev pub invariant-loop-a : goal.invariant-loop-a
invariant-loop-a g l = record {
  len : vec_len l.states ≡ l.a;
  each : (k : ℕ) (d : _) → k < l.a → IsUnfired g.A.Actor.steps l.room (node l.net k)
      (slice_index_or l.states.items k d);
}
