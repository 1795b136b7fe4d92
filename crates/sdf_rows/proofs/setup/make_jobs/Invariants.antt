use Rattle.std.proofs.Common.{◌≡◌, ◌<◌, ℕ, slice_index_or, vec_len}
use Rattle.sdf_rows.specs.Setup.{HasPlaces}
use Rattle.sdf_rows.proofs.setup.make_jobs.Given as goal

abbrev pub invariant-loop : goal.invariant-loop
invariant-loop g l = record {
  len : vec_len l.jobs ≡ l.counter;
  each : (k : ℕ) (d : _) → k < l.counter → HasPlaces g.A.Actor.steps l.net (slice_index_or l.jobs.items k d);
}
