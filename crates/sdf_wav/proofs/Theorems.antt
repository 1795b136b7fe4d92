-- What proofs of other crates cite of this one: the laws of WAV files, by their lemmas.
use Rattle.sdf_wav.specs.Laws.{FilesAreCanonical, PutsJoin, FilesOpenAs, PiecesGoOn, FewEnd, PiecesEnd, PiecesFall}
use Rattle.sdf_wav.specs.Laws.{OneSound, OneFault, NotBoth}
use Rattle.sdf_wav.proofs.Canonical.{is_canonical}
use Rattle.sdf_wav.proofs.Exact.{one_sound as same_sound, one_fault as same_fault, not_both as never_both}
use Rattle.sdf_wav.proofs.Opens.{wav_opens_as}
use Rattle.sdf_wav.proofs.PiecesIn.{reads_on, few_at_end, ended_is_wav, falls_with}
use Rattle.sdf_wav.proofs.PiecesOut.{puts_join as join}

pub files_are_canonical : FilesAreCanonical
files_are_canonical = is_canonical

pub puts_join : PutsJoin
puts_join = join

pub files_open : FilesOpenAs
files_open = wav_opens_as

pub pieces_go_on : PiecesGoOn
pieces_go_on = reads_on

pub few_end : FewEnd
few_end = few_at_end

pub pieces_end : PiecesEnd
pieces_end = ended_is_wav

pub pieces_fall : PiecesFall
pieces_fall = falls_with

pub one_sound : OneSound
one_sound = same_sound

pub one_fault : OneFault
one_fault = same_fault

pub not_both : NotBoth
not_both = never_both
