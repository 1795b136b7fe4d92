use Rattle.sdf_sched.proofs.Theorems.{stuck_counts_mean_deadlock}
use Rattle.sdf_sched.proofs.laws.stuck_counts_mean_deadlock.Goals as goal

pub returns : goal.returns
returns c = stuck_counts_mean_deadlock
