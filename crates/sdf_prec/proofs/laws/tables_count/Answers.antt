use Rattle.sdf_prec.proofs.Theorems.{tables_count}
use Rattle.sdf_prec.proofs.laws.tables_count.Goals as goal

pub returns : goal.returns
returns c = tables_count
