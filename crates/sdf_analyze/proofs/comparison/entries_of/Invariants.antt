use Rattle.std.proofs.Common.{◌≡◌, map, take}
use Rattle.std.specs.List.{All}
use Rattle.sdf_analyze.specs.declared.columns.Entry.{Entry}
use Rattle.sdf_analyze.specs.Comparisons.{IsOutcome}
use Rattle.sdf_analyze.specs.Spans.{AreSpans}
use Rattle.sdf_analyze.proofs.comparison.entries_of.Given as goal

abbrev pub invariant-loop-options : goal.invariant-loop-options
invariant-loop-options l = record {
  ways_are : map (λ (e : Entry). e.options) l.entries.items ≡ take l.options-index l.ways;
  spans : AreSpans l.design l.spans.items;
  each : All (λ (e : Entry). IsOutcome l.design e.options e.outcome) l.entries.items;
}
