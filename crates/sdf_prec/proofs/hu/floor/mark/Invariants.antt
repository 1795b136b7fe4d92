use Rattle.std.proofs.Common.{◌≡◌, ℕ, ◌<◌, length, get_or}
use Rattle.sdf_graph.specs.Rates.{rates}
use Rattle.sdf_prec.specs.Queued.{IsUnmarked}
use Rattle.sdf_prec.proofs.hu.floor.mark.Given as goal

abbrev pub invariant-loop-number : goal.invariant-loop-number
invariant-loop-number l = record {
  same : length l.marks ≡ length l.initial.marks;
  left : (a : ℕ) → IsUnmarked l.marks a → IsUnmarked l.initial.marks a;
  fed : (j : ℕ) → j < l.number-index → IsUnmarked l.marks ((rates l.graph).target (get_or l.number-items j 0)) → ⊥;
}
