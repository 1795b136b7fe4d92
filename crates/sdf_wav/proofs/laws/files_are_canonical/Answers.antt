use Rattle.sdf_wav.proofs.Canonical.{is_canonical}
use Rattle.sdf_wav.proofs.laws.files_are_canonical.Goals as goal

pub returns : goal.returns
returns c = is_canonical
