use Rattle.sdf_times.proofs.OnTime.{rows_are_on_time}
use Rattle.sdf_times.proofs.laws.rows_are_on_time.Goals as goal

pub returns : goal.returns
returns c = rows_are_on_time
