use Rattle.sdf_times.proofs.Certified.{periods_are_certified}
use Rattle.sdf_times.proofs.OnePeriod.{one_period}
use Rattle.sdf_times.proofs.laws.periods_are_certified.Goals as goal

pub returns-clause-certified : goal.returns-clause-certified
returns-clause-certified c = periods_are_certified

pub returns-clause-one : goal.returns-clause-one
returns-clause-one c = one_period
