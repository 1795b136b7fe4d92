-- The table at the homes of a design is that of its placement.
use Rattle.std.proofs.Common.{◌≡◌, ◌⊎◌, inl, inr, ℕ, List, Option, Result, Ok, Err, MatchResult, sym, subst}
use Rattle.sdf_graph.specs.Rates.{GraphValue, rates}
use Rattle.sdf_graph.specs.Sequences.{repeated}
use Rattle.sdf_actor.specs.Graphs.{graph_of}
use Rattle.sdf_kit.specs.Kit.{kit_steps}
use Rattle.sdf_sched.specs.Period.{Schedule}
use Rattle.sdf_prec.specs.declared.fault.PrecFault.{PrecFault}
use Rattle.sdf_prec.specs.Accepting.{IsSize}
use Rattle.sdf_prec.specs.ByHomes.{AreByHomes, AreRunsByHomes, IsHomesFault}
use Rattle.sdf_prec.specs.Tables.{TableValue, IsTable}
use Rattle.sdf_file.specs.Designs.{DesignValue}
use Rattle.sdf_options.specs.declared.options.Options.{Options}
use Rattle.sdf_options.specs.declared.options.Placement.TheVariants.{File}
use Rattle.sdf_options.specs.declared.options.Policy.TheVariants.{Round, Lean, Runs}
use Rattle.sdf_prec.specs.Long.{IsLongSize}
use Rattle.sdf_plan.specs.Placements.{rates_of, firings_of, AreAtHome, IsPlaced, IsPlaceFault, IsTableBy}

long_size : (j m : ℕ) (q : List ℕ) → IsSize j m q → IsLongSize j m q
long_size j m q is = record { some = is.blocking.0; workers = is.workers; short = is.short }

-- what the two calls say of a table
abbrev AreRuns : GraphValue → ℕ → ℕ → Schedule → List (Option ℕ) → TableValue → Type 0
AreRuns g j m s homes t =
    IsSize j m s.repetitions × IsTable (rates g) (firings_of j s) m t
    × AreRunsByHomes (rates g) (firings_of j s) homes m t.rows

abbrev AreInOrder : GraphValue → ℕ → ℕ → Schedule → List (Option ℕ) → TableValue → Type 0
AreInOrder g j m s homes t =
    IsSize j m s.repetitions × IsTable (rates g) (firings_of j s) m t
    × AreByHomes homes m (repeated j s.order) t.rows

module _ (d : DesignValue) (o : Options) (s : Schedule) (j : ℕ) (file : o.placement ≡ File) where
  placed_at : (t : TableValue) → IsSize j o.workers s.repetitions → IsTable (rates_of d) (firings_of j s) o.workers t →
      AreAtHome o.policy d j o.workers s t → IsTableBy d o s j t
  placed_at t size table home = record {
    size = long_size j o.workers s.repetitions size;
    placed = subst (λ p. IsPlaced p o.policy d j o.workers s t) (sym file) (table, home);
  }

  refused_at : (f : PrecFault) → IsHomesFault j o.workers s.repetitions d.homes f →
      IsPlaceFault o.placement d j o.workers s f
  refused_at f why = subst (λ p. IsPlaceFault p d j o.workers s f) (sym file) why

  runs_at : (r : Result TableValue PrecFault) → o.policy ≡ Runs →
      MatchResult r (AreRuns (graph_of kit_steps d.net) j o.workers s d.homes)
      (IsHomesFault j o.workers s.repetitions d.homes) →
      MatchResult r (IsTableBy d o s j) (IsPlaceFault o.placement d j o.workers s)
  runs_at (Ok t) runs is =
      placed_at t is.0 is.1 (subst (λ p. AreAtHome p d j o.workers s t) (sym runs) is.2)
  runs_at (Err f) runs why = refused_at f why

  order_at : (r : Result TableValue PrecFault) → (o.policy ≡ Round) ⊎ (o.policy ≡ Lean) →
      MatchResult r (AreInOrder (graph_of kit_steps d.net) j o.workers s d.homes)
      (IsHomesFault j o.workers s.repetitions d.homes) →
      MatchResult r (IsTableBy d o s j) (IsPlaceFault o.placement d j o.workers s)
  order_at (Ok t) (inl round) is =
      placed_at t is.0 is.1 (subst (λ p. AreAtHome p d j o.workers s t) (sym round) is.2)
  order_at (Ok t) (inr lean) is =
      placed_at t is.0 is.1 (subst (λ p. AreAtHome p d j o.workers s t) (sym lean) is.2)
  order_at (Err f) policy why = refused_at f why

  module _ (g : GraphValue) (homes : List (Option ℕ)) (graph : g ≡ graph_of kit_steps d.net)
      (same : homes ≡ d.homes) where
    pub table_in_runs : (r : Result TableValue PrecFault) → o.policy ≡ Runs →
        MatchResult r (AreRuns g j o.workers s homes) (IsHomesFault j o.workers s.repetitions homes) →
        MatchResult r (IsTableBy d o s j) (IsPlaceFault o.placement d j o.workers s)
    table_in_runs r runs is =
        runs_at r runs (subst (λ x. MatchResult r (AreRuns x j o.workers s d.homes)
        (IsHomesFault j o.workers s.repetitions d.homes)) graph
        (subst (λ hs. MatchResult r (AreRuns g j o.workers s hs) (IsHomesFault j o.workers s.repetitions hs)) same is))

    pub table_in_order : (r : Result TableValue PrecFault) → (o.policy ≡ Round) ⊎ (o.policy ≡ Lean) →
        MatchResult r (AreInOrder g j o.workers s homes) (IsHomesFault j o.workers s.repetitions homes) →
        MatchResult r (IsTableBy d o s j) (IsPlaceFault o.placement d j o.workers s)
    table_in_order r policy is =
        order_at r policy (subst (λ x. MatchResult r (AreInOrder x j o.workers s d.homes)
        (IsHomesFault j o.workers s.repetitions d.homes)) graph
        (subst (λ hs. MatchResult r (AreInOrder g j o.workers s hs) (IsHomesFault j o.workers s.repetitions hs)) same
        is))
