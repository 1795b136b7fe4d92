use Rattle.std.proofs.Common.{◌≡◌, ◌<◌, ℕ, length, Some, None}
use Rattle.std.specs.Prelude.{slice_index_or}
use Rattle.sdf_graph.specs.Rates.{rates}
use Rattle.sdf_prec.specs.Spread.{IsStretchStart, IsStretchEnd, share}
use Rattle.sdf_prec.proofs.spread.spread.Given as goal

abbrev pub invariant-loop-actor : goal.invariant-loop-actor
invariant-loop-actor l = record {
  all : length l.homes.items ≡ l.actor;
  each : (a : ℕ) → a < l.actor → (first : ℕ) × (past : ℕ) × IsStretchStart (rates l.graph) a first
      × IsStretchEnd (rates l.graph) a past
      × (slice_index_or l.homes.items a None ≡ Some (share l.weights l.m first past));
}
