use Rattle.sdf_sched.proofs.Theorems.{period_or_deadlock}
use Rattle.sdf_sched.proofs.laws.period_or_deadlock.Goals as goal

pub returns : goal.returns
returns c = period_or_deadlock
