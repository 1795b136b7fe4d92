use Rattle.sdf_times.proofs.FirstBlock.{makespan_is_within_first, period_is_within_first, first_is_within_rows}
use Rattle.sdf_times.proofs.laws.first_blocks_bound.Goals as goal

pub returns-clause-makespan : goal.returns-clause-makespan
returns-clause-makespan c = makespan_is_within_first

pub returns-clause-period : goal.returns-clause-period
returns-clause-period c = period_is_within_first

pub returns-clause-rows : goal.returns-clause-rows
returns-clause-rows c = first_is_within_rows
