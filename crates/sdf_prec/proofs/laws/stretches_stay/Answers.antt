use Rattle.sdf_prec.proofs.Theorems.{fed_stay, loops_stay}
use Rattle.sdf_prec.proofs.laws.stretches_stay.Goals as goal

pub returns-clause-loops : goal.returns-clause-loops
returns-clause-loops c = loops_stay

pub returns-clause-fed : goal.returns-clause-fed
returns-clause-fed c = fed_stay
