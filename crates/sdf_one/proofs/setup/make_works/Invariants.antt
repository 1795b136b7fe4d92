use Rattle.std.proofs.Common.{◌≡◌, ◌<◌, ℕ, slice_index_or, vec_len}
use Rattle.sdf_actor.specs.Nets.{node}
use Rattle.sdf_one.specs.Runs.{BeginsWork}
use Rattle.sdf_one.proofs.setup.make_works.Given as goal

abbrev pub invariant-loop-a : goal.invariant-loop-a
invariant-loop-a g l = record {
  len : vec_len l.works ≡ l.a;
  each : (k : ℕ) (d : _) → k < l.a → BeginsWork g.A.Actor.steps (node l.net k) (slice_index_or l.works.items k d);
}
