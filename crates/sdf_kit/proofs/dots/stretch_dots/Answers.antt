use Rattle.std.proofs.Common.{◌∙◌}
use Rattle.sdf_kit.proofs.LaneSums.{stretch_total}
use Rattle.sdf_kit.proofs.dots.stretch_dots.Goals as goal

pub returns-clause-a : goal.returns-clause-a
returns-clause-a c =
    c.wide_totals.ensures.a ∙ stretch_total c.args.h.now c.args.x.now c.four_sums-sums.result.a
    c.four_sums-sums.ensures.a c.requires.stretch

pub returns-clause-b : goal.returns-clause-b
returns-clause-b c =
    c.wide_totals.ensures.b ∙ stretch_total c.args.h.now c.args.y.now c.four_sums-sums.result.b
    c.four_sums-sums.ensures.b c.requires.stretch

pub returns-clause-c : goal.returns-clause-c
returns-clause-c c =
    c.wide_totals.ensures.c ∙ stretch_total c.args.h.now c.args.z.now c.four_sums-sums.result.c
    c.four_sums-sums.ensures.c c.requires.stretch

pub returns-clause-d : goal.returns-clause-d
returns-clause-d c =
    c.wide_totals.ensures.d ∙ stretch_total c.args.h.now c.args.w.now c.four_sums-sums.result.d
    c.four_sums-sums.ensures.d c.requires.stretch
