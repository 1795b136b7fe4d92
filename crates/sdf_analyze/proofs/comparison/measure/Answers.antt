use Rattle.std.proofs.Common.{ℕ, ap, subst, sym, slice_index}
use Rattle.sdf_times.specs.Times.{IsSpan}
use Rattle.sdf_options.specs.declared.options.Options.{Options}
use Rattle.sdf_plan.specs.Placements.{rates_of, firings_of}
use Rattle.sdf_analyze.proofs.comparison.measure.Goals as goal

pub with_span-requires-clause-span : goal.with_span-requires-clause-span
with_span-requires-clause-span c =
    subst (λ (j : ℕ). IsSpan (rates_of c.args.design.now) (firings_of j c.args.period.now)
    (slice_index c.args.design.now.costs) c.in_ok-span.span)
    (sym (ap (λ (o : Options). o.blocking) c.with_blocking-placed.ensures)) c.in_ok-span.ensures.span
