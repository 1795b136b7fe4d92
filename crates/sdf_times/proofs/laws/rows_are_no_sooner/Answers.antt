use Rattle.sdf_times.proofs.Rules.{rows_are_no_sooner}
use Rattle.sdf_times.proofs.laws.rows_are_no_sooner.Goals as goal

pub returns : goal.returns
returns c = rows_are_no_sooner
