use Rattle.std.proofs.Common.{length, ap, subst, arith}
use Rattle.sdf_prec.specs.Accepting.{IsSize}
use Rattle.sdf_prec.proofs.table.Table.by_homes_in_runs.Goals as goal

pub in_runs-requires-clause-some : goal.in_runs-requires-clause-some
in_runs-requires-clause-some c = c.in_default.ensures.0.blocking.0

pub in_runs-requires-clause-short : goal.in_runs-requires-clause-short
in_runs-requires-clause-short c =
    let size : IsSize c.args.blocking c.args.m c.args.period.now.repetitions =
    subst (IsSize c.args.blocking c.args.m) c.repetitions.ensures c.in_default.ensures.0 in
    size.short

pub in_runs-requires-clause-homed : goal.in_runs-requires-clause-homed
in_runs-requires-clause-homed c = λ a l. c.in_default.ensures.1 a
    (omega (arith, l, c.requires.least.is.all, ap length c.repetitions.ensures))

pub returns : goal.returns
returns c = (
  subst (IsSize c.args.blocking c.args.m) c.repetitions.ensures c.in_default.ensures.0,
  c.in_ok-table.ensures.table,
  c.in_ok-table.ensures.runs,
)
