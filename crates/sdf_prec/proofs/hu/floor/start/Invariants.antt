use Rattle.std.proofs.Common.{◌≡◌, length}
use Rattle.std.specs.Prelude.{slice_index}
use Rattle.sdf_prec.specs.Floor.{AreStarted}
use Rattle.sdf_prec.proofs.hu.floor.start.Given as goal

abbrev pub invariant-loop-column : goal.invariant-loop-column
invariant-loop-column l = record {
  begun : AreStarted (slice_index l.costs) l.now l.column l.cells (slice_index l.initial.started)
      (slice_index l.initial.whose) (slice_index l.initial.until) (slice_index l.started) (slice_index l.whose)
      (slice_index l.until);
  actors : length l.started ≡ length l.initial.started;
  all : length l.whose ≡ length l.initial.whose;
  columns : length l.until ≡ length l.initial.until;
}
