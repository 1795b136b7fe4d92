use Rattle.sdf_times.proofs.ColumnLoads.{loads_are_within}
use Rattle.sdf_times.proofs.Within.{period_is_within_rows, period_is_within_work, one_column_works, work_is_shared}
use Rattle.sdf_times.proofs.laws.periods_are_bounded.Goals as goal

pub returns-clause-loads : goal.returns-clause-loads
returns-clause-loads c = loads_are_within

pub returns-clause-rows : goal.returns-clause-rows
returns-clause-rows c = period_is_within_rows

pub returns-clause-work : goal.returns-clause-work
returns-clause-work c = period_is_within_work

pub returns-clause-shares : goal.returns-clause-shares
returns-clause-shares c = work_is_shared

pub returns-clause-one : goal.returns-clause-one
returns-clause-one c = one_column_works
