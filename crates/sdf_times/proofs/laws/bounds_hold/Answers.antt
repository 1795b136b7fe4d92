use Rattle.sdf_times.proofs.Least.{bounds_hold}
use Rattle.sdf_times.proofs.laws.bounds_hold.Goals as goal

pub returns : goal.returns
returns c = bounds_hold
