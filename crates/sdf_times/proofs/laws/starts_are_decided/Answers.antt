use Rattle.sdf_times.proofs.Least.{starts_are_least, starts_are_one}
use Rattle.sdf_times.proofs.Exists.{starts_exist}
use Rattle.sdf_times.proofs.laws.starts_are_decided.Goals as goal

pub returns-clause-exist : goal.returns-clause-exist
returns-clause-exist c = starts_exist

pub returns-clause-least : goal.returns-clause-least
returns-clause-least c = starts_are_least

pub returns-clause-one : goal.returns-clause-one
returns-clause-one c = starts_are_one
