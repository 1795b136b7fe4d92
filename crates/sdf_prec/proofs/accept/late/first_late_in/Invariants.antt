use Rattle.std.proofs.Common.{ℕ, ◌<◌}
use Rattle.std.specs.Prelude.{map}
use Rattle.sdf_graph.specs.Rates.{rates}
use Rattle.sdf_prec.specs.declared.firing.Firing.{Firing}
use Rattle.sdf_prec.specs.Tables.{row, firings, Stands}
use Rattle.sdf_prec.specs.Refusals.{IsInTime}
use Rattle.sdf_prec.specs.Seen.{IsMarkedBy}
use Rattle.sdf_prec.proofs.accept.late.first_late_in.Given as goal

abbrev pub invariant-loop-i : goal.invariant-loop-i
invariant-loop-i l = (m : ℕ) (h : Firing) → m < l.i → Stands (firings (row (map (λ r. r.items) l.rows) m)) h →
    IsInTime (rates l.graph) (IsMarkedBy l.marks m) h
