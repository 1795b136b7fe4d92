use Rattle.std.proofs.Common.{◌≡◌, ◌<◌, ℕ, slice_index, vec_len}
use Rattle.sdf_rings.specs.Openings.{HasRing}
use Rattle.sdf_rings.proofs.setup.openings.open_rings.Given as goal

abbrev pub invariant-loop-c : goal.invariant-loop-c
invariant-loop-c g l = record {
  producers : vec_len l.producers ≡ l.c;
  consumers : vec_len l.consumers ≡ l.c;
  each : (k : ℕ) → k < l.c → HasRing g.A.Actor.steps l.net
      (slice_index l.table.caps) k l.producers.items l.consumers.items;
}
