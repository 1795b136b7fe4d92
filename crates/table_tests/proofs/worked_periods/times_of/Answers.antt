use Rattle.std.proofs.Common.{arith, subst, sym}
use Rattle.sdf_graph.specs.Rates.{rates}
use Rattle.sdf_graph.specs.Periods.{IsPeriodVector}
use Rattle.table_tests.proofs.worked_periods.times_of.Goals as goal

pub told-requires : goal.told-requires
told-requires c = record {
  run = (
    c.args.actors,
    record {
      period = subst (IsPeriodVector (rates c.in_ok-graph.graph)) (sym c.repetitions-reps.ensures)
          c.in_ok-schedule.ensures.least.is;
      some = omega arith;
      short = c.in_ok-table.ensures.0.short;
      table = c.in_ok-table.ensures.1.table;
      costs_are = c.in_ok-costs.ensures;
    },
  );
}
