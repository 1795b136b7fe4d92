use Rattle.std.proofs.Common.{subst}
use Rattle.sdf_graph.specs.Rates.{rates}
use Rattle.sdf_sched.specs.Period.{IsPeriodOf}
use Rattle.sdf_prec.specs.BlockTables.{IsTableOf}
use Rattle.run_tests.proofs.Tables.{sized}
use Rattle.run_tests.proofs.nets.in_runs.Goals as goal

pub returns-clause-fits : goal.returns-clause-fits
returns-clause-fits g c =
    let q = c.in_ok-period.period.repetitions in
    record {
      period = subst (λ x. IsPeriodOf (rates x) c.in_ok-period.period) c.graph.ensures.value c.in_ok-period.ensures.0;
      table = subst (λ x. IsTableOf (rates x) q 2 c.in_ok-table.table) c.graph-2.ensures.value
          (sized (rates c.graph-2.result.now) q 2 3 c.in_ok-table.table c.in_ok-table.ensures.0
          c.in_ok-table.ensures.1);
    }
