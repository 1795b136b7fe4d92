use Rattle.sdf_sched.proofs.Theorems.{enabled_stays}
use Rattle.sdf_sched.proofs.laws.enabled_stays.Goals as goal

pub returns : goal.returns
returns c = enabled_stays
