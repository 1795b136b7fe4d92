use Rattle.sdf_times.proofs.Certified.{self_timed_are_least, self_timed_are_one}
use Rattle.sdf_times.proofs.SelfExist.{self_timed_exist, blocks_end}
use Rattle.sdf_times.proofs.laws.self_timed_starts_are_decided.Goals as goal

pub returns-clause-exist : goal.returns-clause-exist
returns-clause-exist c = self_timed_exist

pub returns-clause-least : goal.returns-clause-least
returns-clause-least c = self_timed_are_least

pub returns-clause-one : goal.returns-clause-one
returns-clause-one c = self_timed_are_one

pub returns-clause-ends : goal.returns-clause-ends
returns-clause-ends c = blocks_end
