use Rattle.sdf_times.proofs.ByRows.{rows_take_longer}
use Rattle.sdf_times.proofs.laws.rows_take_longer.Goals as goal

pub returns : goal.returns
returns c = rows_take_longer
