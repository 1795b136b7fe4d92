use Rattle.std.proofs.Common.{subst, sym}
use Rattle.sdf_analyze.specs.Spans.{AreSpans}
use Rattle.sdf_analyze.proofs.Known.{known_is, known_more}
use Rattle.sdf_analyze.proofs.spans.span_once.Goals as goal

pub returns-in-Some-clause-span : goal.returns-in-Some-clause-span
returns-in-Some-clause-span c = known_is c.args.design.now c.args.known.now.items c.requires.known c.args.blocking
    c.in-Some.span c.args.period.now c.requires.period (rw c.deref.ensures.value at c.in-Some.ensures)

pub returns-in_err-keep-clause-known : goal.returns-in_err-keep-clause-known
returns-in_err-keep-clause-known c = subst (AreSpans c.args.design.now) (sym c.in_err-keep.ensures) c.requires.known

pub returns-clause-known : goal.returns-clause-known
returns-clause-known c = subst (AreSpans c.args.design.now) (sym c.in_ok-keep.ensures)
    (known_more c.args.design.now c.args.known.now.items c.requires.known c.args.blocking
    c.in_ok-span.span c.args.period.now c.requires.period c.in_ok-span.ensures)
