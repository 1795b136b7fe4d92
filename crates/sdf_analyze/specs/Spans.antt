-- The spans of a design's blocks.
use Rattle.std.specs.Prelude.{List, slice_index}
use Rattle.std.specs.List.{All}
use Rattle.sdf_sched.specs.Period.{Schedule, IsPeriodOf}
use Rattle.sdf_times.specs.Times.{IsSpan}
use Rattle.sdf_file.specs.Designs.{DesignValue}
use Rattle.sdf_plan.specs.Placements.{rates_of, firings_of}
use Rattle.sdf_analyze.specs.declared.spans.BlockSpan.{BlockSpan}

-- each entry's span is the span of a block of its periods
abbrev pub AreSpans : DesignValue → List BlockSpan → Type 0
AreSpans d = All (λ (b : BlockSpan). (s : Schedule) → IsPeriodOf (rates_of d) s →
    IsSpan (rates_of d) (firings_of b.blocking s) (slice_index d.costs) b.span)
