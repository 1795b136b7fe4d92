use Rattle.std.proofs.Common.{length, ◌≤◌, None}
use Rattle.std.specs.Prelude.{slice_index, slice_index_or}
use Rattle.sdf_prec.specs.Placing.{IsPlacing, AreWaiting}
use Rattle.sdf_prec.proofs.hu.homing.place.Given as goal

abbrev pub invariant-loop-firing : goal.invariant-loop-firing
invariant-loop-firing l = record {
  placed : IsPlacing (length l.fn.homes) (length l.until) (slice_index l.weights) (λ j. slice_index l.until j ≤ l.now)
      (λ a. slice_index_or l.fn.homes a None) l.queue l.firing-index l.cells.items l.homes;
  waiting : AreWaiting l.until l.now l.queue l.firing-index l.cells.items l.homes;
}
