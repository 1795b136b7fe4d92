-- Spans of blocks, whatever the order of a period.
use Rattle.std.proofs.Common.{ℕ, List, ◌∷◌, [], ◌++◌, slice_index, subst}
use Rattle.std.specs.List.{Contains}
use Rattle.std.proofs.lemmas.List.Elements.{All-push}
use Rattle.sdf_graph.proofs.Theorems.{one_least_period}
use Rattle.sdf_sched.specs.Period.{Schedule, IsPeriodOf}
use Rattle.sdf_prec.specs.Blocks.{block}
use Rattle.sdf_times.specs.Times.{IsSpan}
use Rattle.sdf_file.specs.Designs.{DesignValue}
use Rattle.sdf_plan.specs.Placements.{rates_of, firings_of}
use Rattle.sdf_analyze.specs.declared.spans.BlockSpan.{BlockSpan}
use Rattle.sdf_analyze.specs.Spans.{AreSpans}

module _ (d : DesignValue) (known : List BlockSpan) (are : AreSpans d known) where
  pub known_is : (blocking span : ℕ) (s : Schedule) → IsPeriodOf (rates_of d) s →
      Contains known (record { blocking = blocking; span = span }) →
      IsSpan (rates_of d) (firings_of blocking s) (slice_index d.costs) span
  known_is blocking span s is at =
      subst (λ (b : BlockSpan). IsSpan (rates_of d) (firings_of b.blocking s) (slice_index d.costs) b.span) at.2
      (are at.0 (record { blocking = blocking; span = span }) at.1 s is)

  -- one span more
  pub known_more : (blocking span : ℕ) (s : Schedule) → IsPeriodOf (rates_of d) s →
      IsSpan (rates_of d) (firings_of blocking s) (slice_index d.costs) span →
      AreSpans d (known ++ record { blocking = blocking; span = span } ∷ [])
  known_more blocking span s is its = All-push (λ (b : BlockSpan). (s : Schedule) → IsPeriodOf (rates_of d) s →
      IsSpan (rates_of d) (firings_of b.blocking s) (slice_index d.costs) b.span) known
      (record { blocking = blocking; span = span }) are
      (λ t other. subst (λ reps. IsSpan (rates_of d) (slice_index (block blocking reps)) (slice_index d.costs) span)
      (one_least_period (rates_of d) s.repetitions t.repetitions is.least other.least) its)
