use Rattle.std.proofs.Common.{◌<◌, ℕ}
use Rattle.std.specs.Prelude.{slice_index}
use Rattle.sdf_graph.specs.Rates.{rates}
use Rattle.sdf_prec.specs.declared.firing.Firing.{Firing}
use Rattle.sdf_prec.specs.Refusals.{IsLastNeed}
use Rattle.sdf_prec.specs.Seen.{IsMarkedBy}
use Rattle.sdf_prec.proofs.accept.late.first_late.Given as goal

abbrev pub invariant-loop-channel : goal.invariant-loop-channel
invariant-loop-channel l = (j : ℕ) (g : Firing) → j < l.channel-index →
    IsLastNeed (rates l.graph) l.firing (slice_index l.channel-items j) g → IsMarkedBy l.marks l.row g
