use Rattle.std.proofs.Common.{◌≡◌, ℕ, ◌<◌}
use Rattle.std.specs.Prelude.{slice_index}
use Rattle.sdf_graph.specs.Rates.{rates}
use Rattle.sdf_times.specs.Times.{IsGreatest}
use Rattle.sdf_draw.proofs.depths.deepest.Given as goal

abbrev pub invariant-loop-number : goal.invariant-loop-number
invariant-loop-number l = IsGreatest (λ u. (j : ℕ) × (j < l.number-index)
    × (slice_index l.depths ((rates l.graph).source (slice_index l.number-items j)) ≡ u)) l.most
