-- Executions: the ways in which a design is run.
use Rattle.std.specs.Prelude.{◌≡◌, ℕ, Some, None}
use Rattle.sdf_prec.specs.declared.block_table.BlockTable.{BlockTable}
use Rattle.sdf_options.specs.declared.options.Runner.TheVariants as runners
use Rattle.sdf_plan.specs.declared.plan.Execution.{Execution}
use Rattle.sdf_plan.specs.declared.plan.Execution.TheVariants.{One, Parts, Rows, Rings}
use Rattle.sdf_plan.specs.Plans.{PlanValue}

-- the plan that runs a design by an execution, where the options ask for this spin limit
abbrev pub plan_by : Execution → ℕ → PlanValue
plan_by (One period blocking) patience = record {
  blocking = blocking;
  runner = runners.One;
  patience = patience;
  parts = 1;
  period = period;
  table = None;
}
plan_by (Parts period blocking parts) patience = record {
  blocking = blocking;
  runner = runners.One;
  patience = patience;
  parts = parts;
  period = period;
  table = None;
}
plan_by (Rows t) patience = record {
  blocking = t.blocking;
  runner = runners.Rows;
  patience = patience;
  parts = 1;
  period = t.period;
  table = Some t.table;
}
plan_by (Rings t) patience = record {
  blocking = t.blocking;
  runner = runners.Rings;
  patience = patience;
  parts = 1;
  period = t.period;
  table = Some t.table;
}

-- a plan has this table of blocks
pub record HasBlockTable (p : PlanValue) (t : BlockTable) : Type 0 where
  pub period : t.period ≡ p.period
  pub blocking : t.blocking ≡ p.blocking
  pub table : p.table ≡ Some t.table
