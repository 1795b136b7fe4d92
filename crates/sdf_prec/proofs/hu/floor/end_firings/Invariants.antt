use Rattle.std.proofs.Common.{◌≡◌, ℕ, ◌≤◌, length}
use Rattle.std.specs.Prelude.{slice_index}
use Rattle.sdf_graph.specs.Rates.{rates}
use Rattle.sdf_prec.specs.Floor.{AreEnded}
use Rattle.sdf_prec.specs.Queued.{IsUnmarked, HasRested}
use Rattle.sdf_prec.proofs.hu.floor.end_firings.Given as goal

abbrev pub invariant-loop-column : goal.invariant-loop-column
invariant-loop-column l = record {
  same : l.counts.graph ≡ l.initial.counts.graph;
  all : length l.counts.fired ≡ length l.initial.counts.fired;
  ended : AreEnded l.now l.column (slice_index l.whose) (slice_index l.until) l.initial.counts.fired l.counts.fired;
  rises : (a : ℕ) → slice_index l.initial.counts.fired a ≤ slice_index l.counts.fired a;
  marked : length l.marks ≡ length l.initial.marks;
  rested : (a : ℕ) → IsUnmarked l.marks a →
      HasRested (rates l.initial.counts.graph) l.initial.counts.fired l.counts.fired a;
}
