use Rattle.sdf_wav.proofs.Exact.{some_outcome, one_sound, one_fault, not_both}
use Rattle.sdf_wav.proofs.laws.one_outcome.Goals as goal

pub returns-clause-some : goal.returns-clause-some
returns-clause-some c = some_outcome

pub returns-clause-one_sound : goal.returns-clause-one_sound
returns-clause-one_sound c = one_sound

pub returns-clause-one_fault : goal.returns-clause-one_fault
returns-clause-one_fault c = one_fault

pub returns-clause-not_both : goal.returns-clause-not_both
returns-clause-not_both c = not_both
