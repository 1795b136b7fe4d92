use Rattle.sdf_wav.proofs.Opens.{wav_opens, wav_opens_as}
use Rattle.sdf_wav.proofs.PiecesIn.{reads_on, few_at_end, ended_is_wav, falls_with}
use Rattle.sdf_wav.proofs.laws.pieces_join.Goals as goal

pub returns-clause-opens : goal.returns-clause-opens
returns-clause-opens c = wav_opens

pub returns-clause-announces : goal.returns-clause-announces
returns-clause-announces c = wav_opens_as

pub returns-clause-goes_on : goal.returns-clause-goes_on
returns-clause-goes_on c = reads_on

pub returns-clause-few : goal.returns-clause-few
returns-clause-few c = few_at_end

pub returns-clause-ends : goal.returns-clause-ends
returns-clause-ends c = ended_is_wav

pub returns-clause-falls : goal.returns-clause-falls
returns-clause-falls c = falls_with
