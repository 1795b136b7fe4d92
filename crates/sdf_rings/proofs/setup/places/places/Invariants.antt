use Rattle.std.proofs.Common.{◌≡◌, ◌<◌, ℕ, Some, slice_index_or, vec_len}
use Rattle.sdf_prec.specs.Tables.{home_in}
use Rattle.sdf_rings.specs.Begun.{AreNext}
use Rattle.sdf_rings.proofs.setup.places.places.Given as goal

abbrev pub invariant-loop-actor : goal.invariant-loop-actor
invariant-loop-actor l = record {
  len : vec_len l.places ≡ l.actor;
  homes : (a : ℕ) (d : ℕ × ℕ) → a < l.actor → home_in l.table a ≡ Some (slice_index_or l.places.items a d).0;
  next : AreNext l.places.items;
}
