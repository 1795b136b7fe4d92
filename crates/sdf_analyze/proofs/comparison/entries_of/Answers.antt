use Rattle.std.proofs.Common.{subst, sym}
use Rattle.std.specs.List.{All}
use Rattle.std.proofs.lemmas.List.{map_push, take_more}
use Rattle.std.proofs.lemmas.List.Elements.{All-push}
use Rattle.sdf_analyze.specs.declared.columns.Entry.{Entry}
use Rattle.sdf_analyze.specs.Comparisons.{IsOutcome}
use Rattle.sdf_analyze.proofs.comparison.entries_of.Goals as goal

pub loop-options-preserved : goal.loop-options-preserved
loop-options-preserved c = record {
  ways_are =
      rw (c.in_ok-push.ensures.items, map_push, c.loop-options.invariant.ways_are)
      (sym (take_more c.args.ways.now c.loop-options.options-index _ c.loop-options-test.true));
  spans = c.outcome_once.ensures.spans;
  each =
      subst (All (λ (e : Entry). IsOutcome c.args.design.now e.options e.outcome)) (sym c.in_ok-push.ensures.items)
      (All-push (λ (e : Entry). IsOutcome c.args.design.now e.options e.outcome) c.loop-options.entries.items _
      c.loop-options.invariant.each c.in_ok-outcome.ensures.outcome);
}
