use Rattle.sdf_sched.proofs.Theorems.{runs_stay}
use Rattle.sdf_sched.proofs.laws.runs_stay.Goals as goal

pub returns : goal.returns
returns c = runs_stay
