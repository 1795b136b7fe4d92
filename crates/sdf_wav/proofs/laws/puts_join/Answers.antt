use Rattle.sdf_wav.proofs.PiecesOut.{puts_join}
use Rattle.sdf_wav.proofs.laws.puts_join.Goals as goal

pub returns : goal.returns
returns c = puts_join
