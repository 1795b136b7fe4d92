use Rattle.sdf_prec.proofs.Theorems.{faults_exclude}
use Rattle.sdf_prec.proofs.laws.faults_exclude.Goals as goal

pub returns : goal.returns
returns c = faults_exclude
