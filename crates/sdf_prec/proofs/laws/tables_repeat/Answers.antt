use Rattle.sdf_prec.proofs.Theorems.{tables_repeat}
use Rattle.sdf_prec.proofs.laws.tables_repeat.Goals as goal

pub returns : goal.returns
returns c = tables_repeat
