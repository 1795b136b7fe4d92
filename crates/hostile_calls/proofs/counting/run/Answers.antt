use Rattle.std.proofs.Common.{slice_index, subst}
use Rattle.sdf_graph.specs.Rates.{rates}
use Rattle.sdf_sched.specs.Period.{IsPeriodOf}
use Rattle.sdf_prec.specs.Blocks.{block}
use Rattle.sdf_prec.specs.Tables.{IsTable}
use Rattle.hostile_calls.proofs.counting.run.Goals as goal

pub run_blocks-made-requires-clause-fits : goal.run_blocks-made-requires-clause-fits
run_blocks-made-requires-clause-fits g c κs within =
    record {
      period = subst (λ x. IsPeriodOf (rates x) c.in_ok-period.period) c.graph-graph.ensures.value
          c.in_ok-period.ensures.0;
      table = record {
        width = c.args.sizes.workers;
        some = c.in_ok-table.ensures.0.blocking.0;
        workers = c.in_ok-table.ensures.0.workers;
        short = c.in_ok-table.ensures.0.short;
        table = subst (λ x. IsTable (rates x) (slice_index
            (block c.args.sizes.blocking c.in_ok-period.period.repetitions))
            c.args.sizes.workers c.in_ok-table.table) c.graph-graph.ensures.value c.in_ok-table.ensures.1.table;
      };
    }
