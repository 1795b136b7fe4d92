use Rattle.sdf_prec.proofs.Theorems.{rows_may_fire}
use Rattle.sdf_prec.proofs.laws.rows_may_fire.Goals as goal

pub returns : goal.returns
returns c = rows_may_fire
